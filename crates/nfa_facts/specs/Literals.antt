-- What each match of an NFA begins with.
use Rattle.std.specs.Prelude.{IfSome}
use Rattle.nfa_paths.specs.Common.{Automaton}
use Rattle.nfa_facts.specs.FewBytes.{BeginsAmong}
use Rattle.nfa_facts.specs.LeastLengths.{HasLeast}
use Rattle.nfa_facts.specs.Levels.{AdmitsMatches}
use Rattle.nfa_facts.specs.Prefixes.{BeginsWith}
use Rattle.nfa_facts.specs.RequiredBytes.{IsRequired}
use Rattle.nfa_facts.specs.declared.literal.literals.Literals.{Literals}

-- the literals are those of the NFA: each of its matches has at least this many bytes, begins with the prefix, with
-- bytes of the levels if there are any, and with one of the first bytes, and has the required bytes if there are any
pub record AreLiteralsOf (nfa : Automaton) (literals : Literals) : Type 0 where
  pub least : HasLeast nfa literals.least
  pub begins : BeginsWith nfa literals.prefix.items
  pub levels : IfSome literals.levels (AdmitsMatches nfa)
  pub among : BeginsAmong nfa literals.first
  pub has : IfSome literals.required (IsRequired nfa)

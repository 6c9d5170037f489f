-- The stands so far were copied.
use Rattle.std.proofs.Common.{◌≡◌, take}
use Rattle.nfa_lazy_dfa.specs.Rows.{stances_of}
use Rattle.nfa_lazy_dfa.proofs.cache.copy.copied_stands.Given as goal

abbrev pub invariant-loop-stand : goal.invariant-loop-stand
invariant-loop-stand l = stances_of l.copies.items ≡ stances_of (take l.stand-index l.stands)

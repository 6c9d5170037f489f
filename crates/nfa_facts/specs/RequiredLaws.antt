-- Laws of bytes that each match has, about the definitions only.
use Rattle.std.specs.Prelude.{ℕ}
use Rattle.nfa_paths.specs.Common.{Automaton, Search}
use Rattle.nfa_engines.specs.Laws.{MatchesNothing}
use Rattle.nfa_engines.specs.StartLaws.{anchored_at, IsFirstStart, IsUnbound}
use Rattle.nfa_facts.specs.RequiredBytes.{HasAhead, IsRequired, LacksBefore, LacksFrom}
use Rattle.nfa_facts.specs.declared.literal.required_bytes.RequiredBytes.{RequiredBytes}

-- if the bytes are not ahead of a position, the anchored search there has no accepting path
abbrev pub NothingWithoutRequired : Type 0
NothingWithoutRequired =
    (nfa : Automaton) (x : Search) (r : RequiredBytes) (at : ℕ) → IsRequired nfa r → ¬ HasAhead r x.haystack x.end at
    → MatchesNothing nfa (anchored_at x at)

-- if they are ahead of no position from a first start up to another one, that is a first start, too
abbrev pub FirstStartMovesToRequired : Type 0
FirstStartMovesToRequired =
    (nfa : Automaton) (x : Search) (r : RequiredBytes) (from at : ℕ) → IsRequired nfa r → IsFirstStart nfa x from
    → LacksBefore r x.haystack x.end from at → IsFirstStart nfa x at

-- if they are ahead of no position from a first start on, the search has no accepting path
abbrev pub NothingWithoutRequiredAhead : Type 0
NothingWithoutRequiredAhead =
    (nfa : Automaton) (x : Search) (r : RequiredBytes) (from : ℕ) → IsUnbound nfa x → IsRequired nfa r
    → IsFirstStart nfa x from → LacksFrom r x.haystack x.end from → MatchesNothing nfa x

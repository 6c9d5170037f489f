-- What the only slots of the paths over a match's span are.
use Rattle.std.specs.Prelude.{ℕ, false, List, Option, Some}
use Rattle.nfa_paths.specs.Common.{Automaton, Found, IsAnswer, IsAutomaton, IsFindAnswer, LeftmostFirst, Search}
use Rattle.nfa_engines.specs.SpanLaws.{cut_to}
use Rattle.nfa_facts.specs.StatePaths.{RecordsMatchSpans}
use Rattle.nfa_onepass.specs.Ways.{IsOnly}

-- If each path over the span of the match has this pattern and these slots, they are the answer.
abbrev pub OnlyIsAnswer : Type 0
OnlyIsAnswer =
    (nfa : Automaton) (x : Search) (m : Found) (pattern : ℕ) (slots : List (Option ℕ))
    → IsAutomaton nfa → RecordsMatchSpans nfa → IsFindAnswer nfa LeftmostFirst false x (Some m)
    → IsOnly nfa (cut_to x m.start m.end x.anchored) pattern slots
    → IsAnswer nfa LeftmostFirst false x (Some pattern) slots

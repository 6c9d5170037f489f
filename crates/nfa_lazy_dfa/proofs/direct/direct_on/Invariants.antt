-- The scan is at this place.
use Rattle.nfa_paths.proofs.Common.{◌+◌, ◌-◌, ◌≤◌, search_of}
use Rattle.nfa_lazy_dfa.specs.Places.{IsFoundAt}
use Rattle.nfa_lazy_dfa.proofs.direct.direct_on.Given as goal

abbrev pub invariant-loop-least : goal.invariant-loop-least
invariant-loop-least l = record {
  at : IsFoundAt l.dfa l.cache (search_of l.input) l.place;
  low : l.fn.from.at ≤ l.place.at;
}

abbrev pub decreases-loop-least : goal.decreases-loop-least
decreases-loop-least l = (search_of l.input).end + 1 - l.least

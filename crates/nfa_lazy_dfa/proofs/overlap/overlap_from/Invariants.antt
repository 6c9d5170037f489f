-- The scan is at this place, and the set has gained the patterns that are reached before.
use Rattle.nfa_paths.proofs.Common.{◌+◌, ◌≡◌, ◌-◌, ◌≤◌, search_of}
use Rattle.nfa_lazy_dfa.specs.Places.{IsFoundAt}
use Rattle.nfa_lazy_dfa.specs.Rows.{IsFor, Spends, steps_of}
use Rattle.nfa_lazy_dfa.proofs.GainLemmas.{Gaining}
use Rattle.nfa_lazy_dfa.proofs.overlap.overlap_from.Given as goal

abbrev pub invariant-loop-place : goal.invariant-loop-place
invariant-loop-place l = record {
  own : IsFor l.cache l.dfa;
  at : IsFoundAt l.dfa l.cache (search_of l.input) l.place;
  low : l.fn.from.at ≤ l.place.at;
  spends : Spends l.fn.cache l.cache (l.place.at - l.fn.from.at) 0;
  counts : steps_of l.cache ≡ steps_of l.fn.cache + (l.place.at - l.fn.from.at);
  gains : Gaining l.dfa.nfa (search_of l.input) l.earliest l.fn.patterns l.place.at l.patterns;
}

abbrev pub decreases-loop-place : goal.decreases-loop-place
decreases-loop-place l = (search_of l.input).end - l.place.at

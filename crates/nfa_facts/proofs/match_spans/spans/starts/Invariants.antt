-- The starts of the patterns so far were added, and nothing but starts.
use Rattle.nfa_paths.proofs.Common.{◌≡◌, ℕ, ◌*◌, ◌<◌, ◌≤◌, length, Some, slice_get, In}
use Rattle.nfa_facts.specs.PathStates.{fresh_path_state, IsFresh}
use Rattle.nfa_facts.specs.declared.match_spans.path_state.PathState.{PathState}
use Rattle.nfa_facts.proofs.match_spans.spans.starts.Given as goal

abbrev pub invariant-loop-index : goal.invariant-loop-index
invariant-loop-index l = record {
  room : l.reached.room ≡ 8 * length l.nfa.states;
  anchored : In (fresh_path_state l.nfa.anchored) l.reached.places;
  patterns : (k s : ℕ) → k < l.index → k ≤ 2147483646 → slice_get l.nfa.patterns k ≡ Some s
      → In (fresh_path_state s) l.reached.places;
  only : (v : PathState) → In v l.reached.places → IsFresh l.nfa v;
  below : (v : PathState) → In v l.reached.places → v.state < length l.nfa.states;
}

-- The places so far are no Match that lacks a bound, and what follows them was reached; ways lead to all places.
use Rattle.std.proofs.Common.{◌≡◌, ◌*◌, ◌-◌, length}
use Rattle.nfa_facts.specs.PathStates.{IsUnderWay}
use Rattle.nfa_facts.proofs.match_spans.spans.pattern_records_match_spans.Given as goal

abbrev pub invariant-loop-done : goal.invariant-loop-done
invariant-loop-done l = record {
  room : l.reached.room ≡ 8 * length l.nfa.states;
  under_way : IsUnderWay l.nfa l.pattern l.done l.reached.places;
}

abbrev pub decreases-loop-done : goal.decreases-loop-done
decreases-loop-done l = 8 * length l.nfa.states - l.done

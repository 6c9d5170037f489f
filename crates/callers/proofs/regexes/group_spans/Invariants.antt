-- The spans so far are those of the captures so far.
use Rattle.std.proofs.Common.{◌≡◌, List, Ok, map}
use Rattle.nfa_search_base.specs.Common.{Captured, Yields, group_span}
use Rattle.nfa_meta.specs.CapturesMatches.{captures_left, captures_next}
use Rattle.callers.proofs.regexes.group_spans.Given as goal

abbrev pub invariant-loop-captures : goal.invariant-loop-captures
invariant-loop-captures l = record {
  caught : List Captured;
  ran : Yields captures_next l.initial.items (map Ok caught) l.items;
  spans : l.spans.items ≡ map (λ c. group_span c l.group) caught;
}

abbrev pub decreases-loop-captures : goal.decreases-loop-captures
decreases-loop-captures l = captures_left l.items

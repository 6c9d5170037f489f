-- The spans so far are those of the first explicit groups.
use Rattle.std.proofs.Common.{◌≡◌, ◌+◌, ◌<◌, ℕ, length, slice_get}
use Rattle.regex_search_core.specs.Slots.{group_span}
use Rattle.nfa_meta.proofs.group_spans.extract.Given as goal

abbrev pub invariant-loop-index : goal.invariant-loop-index
invariant-loop-index g l = record {
  long : length l.groups ≡ l.index-end;
  spans : (k : ℕ) → k < l.index → slice_get l.groups k ≡ group_span l.captures (k + 1);
}

-- No column so far has the name.
use Rattle.std.proofs.Common.{◌≡◌, ◌<◌, ℕ, map, slice_get, Some, string_bytes}
use Rattle.log_extractor.proofs.count.column_named.Given as goal

abbrev pub invariant-loop-number : goal.invariant-loop-number
invariant-loop-number l =
    (k : ℕ) → k < l.number → ¬ (slice_get (map string_bytes l.names) k ≡ Some l.name)

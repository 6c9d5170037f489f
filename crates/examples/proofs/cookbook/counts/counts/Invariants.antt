-- The counts so far are those of the lines so far.
use Rattle.std.proofs.Common.{◌≡◌, List, ℕ, count_by, take, unwrap_or}
use Rattle.std.specs.HashMap.{get_by}
use Rattle.std.specs.Str.{bytes_eq}
use Rattle.examples.specs.Fields.{has_key}
use Rattle.examples.proofs.cookbook.counts.counts.Given as goal

abbrev pub invariant-loop-line : goal.invariant-loop-line
invariant-loop-line l = record {
  counts : (q : List ℕ) → unwrap_or (get_by (λ k. bytes_eq q k.now) l.counts) 0
      ≡ count_by (λ line. has_key l.fn.field q line.now) (take l.line-index l.lines);
  keeps : l.field ≡ l.fn.field;
}

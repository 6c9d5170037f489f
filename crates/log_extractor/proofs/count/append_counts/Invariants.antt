-- The rows so far were appended.
use Rattle.std.proofs.Common.{◌≡◌, ◌++◌, map, take, flat_map}
use Rattle.log_extractor.specs.Counts.{counted, tally_line}
use Rattle.log_extractor.proofs.count.append_counts.Given as goal

abbrev pub invariant-loop-count : goal.invariant-loop-count
invariant-loop-count l = l.out.items
    ≡ l.fn.out.items ++ flat_map (tally_line l.form) (map counted (take l.count-index l.listed))

-- The entries so far were listed, and the others are left.
use Rattle.std.proofs.Common.{◌≡◌, ◌++◌, map}
use Rattle.log_extractor.specs.Counts.{counted, entry_counted}
use Rattle.log_extractor.proofs.count.listed_values.Given as goal

abbrev pub invariant-loop-value : goal.invariant-loop-value
invariant-loop-value l =
    map counted l.listed.items ++ map entry_counted l.value-iterator ≡ map entry_counted l.counts.entries

-- The labels so far are those of the first patterns.
use Rattle.std.proofs.Common.{◌≡◌, map, take, string_bytes}
use Rattle.log_extractor.specs.Several.{labels_from}
use Rattle.log_extractor.proofs.command.labels_of.Given as goal

abbrev pub invariant-loop-number : goal.invariant-loop-number
invariant-loop-number l = map string_bytes l.labels.items ≡ labels_from 0 (take l.number l.patterns)

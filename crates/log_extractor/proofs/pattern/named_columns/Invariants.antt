-- The columns so far are those of the first names.
use Rattle.std.proofs.Common.{◌≡◌, map, option_map, take, string_bytes}
use Rattle.log_extractor.specs.Fields.{group_of, named_groups}
use Rattle.log_extractor.proofs.pattern.named_columns.Given as goal

abbrev pub invariant-loop-group : goal.invariant-loop-group
invariant-loop-group l =
    map group_of l.columns.items ≡ named_groups 0 (map (option_map string_bytes) (take l.group l.names))

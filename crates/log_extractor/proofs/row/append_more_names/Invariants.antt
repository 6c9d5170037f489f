-- The names so far were appended.
use Rattle.std.proofs.Common.{◌≡◌, ◌∷◌, ◌++◌, map, take, flat_map, string_bytes}
use Rattle.log_extractor.specs.Printed.{separator, written}
use Rattle.log_extractor.proofs.row.append_more_names.Given as goal

abbrev pub invariant-loop-name : goal.invariant-loop-name
invariant-loop-name l = l.out.items ≡ l.fn.out.items ++ flat_map (λ name. separator l.form ∷ name)
    (map (written l.form) (map string_bytes (take l.name-index l.names)))

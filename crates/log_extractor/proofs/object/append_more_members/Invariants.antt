-- The members so far were appended, and the others are left.
use Rattle.std.proofs.Common.{◌≡◌, ◌∷◌, ◌++◌, map, flat_map, string_bytes}
use Rattle.std.specs.Iterator.Adapters.{zip_first, zip_second}
use Rattle.std.specs.Slice.Iter.{iter_rest}
use Rattle.log_extractor.specs.Fields.{fields_now}
use Rattle.log_extractor.specs.Printed.{members}
use Rattle.log_extractor.proofs.object.append_more_members.Given as goal

abbrev pub invariant-loop-name : goal.invariant-loop-name
invariant-loop-name l =
    l.fn.out.items ++ flat_map (λ m. 44 ∷ m) (members l.values (map string_bytes l.names) (fields_now l.fields))
    ≡ l.out.items ++ flat_map (λ m. 44 ∷ m) (members l.values
    (map string_bytes (iter_rest (zip_first l.name-iterator))) (fields_now (iter_rest (zip_second l.name-iterator))))

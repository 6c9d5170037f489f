-- The names are that of the column of labels, and those of all columns.
use Rattle.std.proofs.Common.{refl}
use Rattle.log_extractor.proofs.parsers.Parsers.new.Goals as goal

pub invariant_of-result : goal.invariant_of-result
invariant_of-result c = λ ps are.
    let names = c.in_ok-names.ensures ps (rw c.deref.ensures.value are) in
    rw (c.in_ok-insert.ensures.items, c.in_ok-from_str.ensures.ok, names) refl

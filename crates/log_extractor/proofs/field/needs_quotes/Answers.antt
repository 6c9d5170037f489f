-- Some byte is special.
use Rattle.std.proofs.Common.{rules, tests, ◌≡◌, false, length, ◌==◌}
use Rattle.std.proofs.lemmas.Iterator.{YieldsList-from_slice}
use Rattle.std.proofs.lemmas.Iterator.Search.{any_from_yields_List}
use Rattle.log_extractor.specs.Printed.{is_special}
use Rattle.log_extractor.proofs.field.needs_quotes.Goals as goal

pub returns-else-is_empty : goal.returns-else-is_empty
returns-else-is_empty c =
    let none : (length c.args.text.now == 0) ≡ false = search rules in
    rw none (any_from_yields_List is_special _ _ c.any.result c.any.ensures.ran
    (YieldsList-from_slice c.args.text.now cc) (λ x b q k. search (rules, tests)))

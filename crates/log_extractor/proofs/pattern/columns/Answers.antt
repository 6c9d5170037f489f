-- The names of the tree are those that the grammar reads.
use Rattle.std.proofs.Common.{◌∙◌}
use Rattle.log_extractor.proofs.FieldLemmas.{columns-read}
use Rattle.log_extractor.proofs.pattern.columns.Goals as goal

pub returns-in_ok-named_columns-in-Ok-clause-read : goal.returns-in_ok-named_columns-in-Ok-clause-read
returns-in_ok-named_columns-in-Ok-clause-read c = λ names named.
    (rw c.deref.ensures.value at c.in_ok-named_columns-in-Ok.ensures)
    ∙ columns-read c.args.text.now c.in-Ok.tree names (rw c.default.ensures at c.in-Ok.ensures.ok)
    c.in-Ok.ensures.group_zero.1 named

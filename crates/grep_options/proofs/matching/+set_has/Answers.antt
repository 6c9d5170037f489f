-- The other characters of the set.
use Rattle.std.proofs.Common.{◌∙◌, sym}
use Rattle.grep_options.proofs.GlobLemmas.{set_has-first, set_has-range}
use Rattle.grep_options.proofs.matching.+set_has.Goals as goal

pub returns-else-is_within : goal.returns-else-is_within
returns-else-is_within t c =
    c.set_has.ensures
    ∙ set_has-range c.args.letters.now c.args.value _ _ _ c.in-len3-up.len_at_least (sym c.if-means.ensures)
    (sym c.if-is_within.ensures)

pub returns-else-is_value-2 : goal.returns-else-is_value-2
returns-else-is_value-2 t c =
    c.set_has-else-is_value-2.ensures
    ∙ set_has-first c.args.letters.now c.args.value _ _ c.in-len3-up.len_at_least (sym c.if-means.ensures)
    (sym c.if-is_value-2.ensures)

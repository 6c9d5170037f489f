-- Each colour is a code: those that are usual, and those that a capability names.
use Rattle.std.proofs.Common.{map, subst, sym}
use Rattle.std.proofs.lemmas.Result.{IfOk-weaker}
use Rattle.grep_options.specs.Colours.{AreCodes, palette_of}
use Rattle.grep_options.proofs.ColourLemmas.{all-codes, usual-codes}
use Rattle.grep_options.proofs.colours.colours_in.Goals as goal

pub returns-clause-codes : goal.returns-clause-codes
returns-clause-codes c =
    let usual = subst AreCodes (sym c.usual.ensures) usual-codes in
    IfOk-weaker c.with_all.result _ _
    (λ colours is. subst AreCodes (sym is)
    (all-codes (map (λ part. part.now) c.deref.result.now) (palette_of c.usual.result) usual)) c.with_all.ensures

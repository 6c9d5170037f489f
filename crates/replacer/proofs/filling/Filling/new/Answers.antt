-- One more stretch was read.
use Rattle.std.proofs.Common.{◌≡◌, ◌∙◌, ◌<◌, ap, arith, get_or, length, map, subst, sym}
use Rattle.std.proofs.lemmas.List.{get_or-map, length-map}
use Rattle.regex_search_core.specs.PatternSets.{number_of}
use Rattle.replacer.proofs.ZipLemmas.{zip_more}
use Rattle.replacer.specs.Fillings.{IsPiece}
use Rattle.replacer.specs.Stretches.{Stretched, stretched}
use Rattle.replacer.proofs.filling.Filling.new.Goals as goal

pub loop-stretch-preserved : goal.loop-stretch-preserved
loop-stretch-preserved c =
    let xs = map stretched c.args.stretches.now in
    let at = c.loop-stretch.stretch-index in
    let stretch = c.stretch-item.result in
    let piece = c.in_ok-piece_of.field-0 in
    let within : at < length xs =
    omega (arith, c.loop-stretch-test.true, length-map c.args.stretches.now stretched) in
    let here : stretched stretch ≡ get_or xs at (stretched stretch) =
    ap stretched c.stretch-item.is
    ∙ sym (get_or-map stretched c.args.stretches.now at stretch (stretched stretch) c.loop-stretch-test.true) in
    rw c.in_ok-push.ensures.items
    (zip_more (IsPiece c.args.groups.now (number_of c.args.pattern)) xs at (stretched stretch)
    c.loop-stretch.pieces.items piece within c.loop-stretch.invariant
    (subst (λ (s : Stretched). IsPiece c.args.groups.now (number_of c.args.pattern) s piece) here
    c.in_ok-piece_of.ensures.piece))

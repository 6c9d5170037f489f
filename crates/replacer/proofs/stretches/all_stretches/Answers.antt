-- One more template was read.
use Rattle.std.proofs.Common.{◌≡◌, ◌∙◌, ◌+◌, ◌++◌, List, [], ◌∷◌, ℕ, ap, map, subst, sym, take}
use Rattle.std.proofs.lemmas.List.{map_push}
use Rattle.std.specs.Borrow.{Bor}
use Rattle.std.specs.Global.{Vec}
use Rattle.replacer.proofs.ZipLemmas.{zip_more}
use Rattle.replacer.specs.Stretches.{AreAllStretches, AreStretches, Stretched, all_stretched, stretched}
use Rattle.replacer.specs.declared.stretches.Stretch.{Stretch}
use Rattle.replacer.proofs.stretches.all_stretches.Goals as goal

pub loop-number-preserved : goal.loop-number-preserved
loop-number-preserved c =
    let templates = c.args.templates.now in
    let at = c.loop-number.number in
    let old = c.loop-number.all.items in
    let made = c.in-Ok.stretches in
    let pushed : all_stretched c.push.new.self.items ≡ all_stretched old ++ (map stretched made.items ∷ []) =
    ap all_stretched c.in_ok-push-in-Ok.ensures.items
    ∙ map_push (λ (stretches : Vec Stretch). map stretched stretches.items) old made in
    subst (λ (all : List (List Stretched)). AreAllStretches (take (at + 1) templates) all) (sym pushed)
    (zip_more (λ (template : Bor (List ℕ)) (stretches : List Stretched). AreStretches template.now stretches) templates
    at _ (all_stretched old) (map stretched made.items) c.loop-number-test.true c.loop-number.invariant
    c.in-Ok.ensures.made)

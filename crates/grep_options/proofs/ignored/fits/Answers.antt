-- The glob is compared with the names after the first ones.
use Rattle.std.proofs.Common.{◌∙◌, ◌-◌, List, Bor, ap, drop, length, take}
use Rattle.std.specs.List.{slice_split}
use Rattle.grep_options.specs.Globs.{Letter}
use Rattle.grep_options.specs.Ignored.{is_slash, path_fits, said}
use Rattle.grep_options.proofs.PathLemmas.{fits_is, if_match, meant_of, names_after, values}
use Rattle.grep_options.proofs.ignored.fits.Goals as goal

pub returns : goal.returns
returns c =
    let rule = said c.args.rule.now in
    let names = c.args.names.now in
    let n = c.min.result in
    let parts = ap (λ (l : List (Bor (List Letter))). values l) c.deref-2.ensures.value ∙ c.in_ok-parts.ensures
    ∙ ap (λ (l : List Letter). slice_split is_slash l) c.deref.ensures.value in
    if_match (λ yes. yes) _ _ _
    (ap (λ (l : List (List Letter)). path_fits l (values (take (length names - n) (drop n names)))) parts
    ∙ ap (path_fits (slice_split is_slash rule.glob)) (names_after names n rule.depth c.min.ensures)
    ∙ fits_is c.args.folder (values names) rule (meant_of rule.folders c.args.folder c.else-rule.either))
    c.path_fits.ensures

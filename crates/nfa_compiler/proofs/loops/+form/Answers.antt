-- the form of a tree, by the forms of its parts
use Rattle.regex_hir.proofs.MeaningLemmas.{meaning-Repetition}
use Rattle.nfa_paths.proofs.Common.{map, length, refl, ap, sym, ◌∙◌, arith, drop_of_length-le}
use Rattle.nfa_compiler.proofs.UnboundLemmas.{drop-back, form-repeat}
use Rattle.nfa_compiler.proofs.loops.+form.Goals as goal
use Rattle.nfa_compiler.specs.Common.{alt_all, cat_all, meaning, form_either, form_of, form_repeated, form_then}

pub form_of-returns-in-Repetition : goal.form_of-returns-in-Repetition
form_of-returns-in-Repetition t c =
    let part = c.form_of.ensures ∙ ap (λ h. form_of (meaning h)) c.deref-in-Repetition.ensures in
    c.repeated.ensures
    ∙ (ap (λ f. form_repeated f c.in-Repetition.min c.in-Repetition.max) part
    ∙ (form-repeat _ _ c.in-Repetition.greedy _
    ∙ ap form_of (sym (ap meaning c.in-Repetition.is ∙ meaning-Repetition _ _ _ _))))

pub form_of_all-loop-index-init : goal.form_of_all-loop-index-init
form_of_all-loop-index-init t c =
    rw (drop_of_length-le c.args.subs.now {i = length c.args.subs.now} (omega arith)) refl

pub form_of_all-loop-index-preserved : goal.form_of_all-loop-index-preserved
form_of_all-loop-index-preserved t c =
    let more = drop-back c.args.subs.now c.loop-index.index _ c.loop-index-test.true c.loop-index.auto.index
    c.index-subs-index.is in
    c.then-all.ensures ∙ (ap (λ f. form_then f c.loop-index.all) c.form_of.ensures
    ∙ (ap (form_then _) c.loop-index.invariant ∙ ap (λ l. form_of (cat_all (map meaning l))) (sym more)))

pub form_of_any-loop-index-init : goal.form_of_any-loop-index-init
form_of_any-loop-index-init t c =
    rw (drop_of_length-le c.args.subs.now {i = length c.args.subs.now} (omega arith)) refl

pub form_of_any-loop-index-preserved : goal.form_of_any-loop-index-preserved
form_of_any-loop-index-preserved t c =
    let more = drop-back c.args.subs.now c.loop-index.index _ c.loop-index-test.true c.loop-index.auto.index
    c.index-subs-index.is in
    c.either-any.ensures ∙ (ap (λ f. form_either f c.loop-index.any) c.form_of.ensures
    ∙ (ap (form_either _) c.loop-index.invariant ∙ ap (λ l. form_of (alt_all (map meaning l))) (sym more)))

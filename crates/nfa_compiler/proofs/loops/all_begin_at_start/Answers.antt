-- one pattern more, from the last one back
use Rattle.nfa_paths.proofs.Common.{Bool, List, length, refl, ap, sym, ◌∙◌, arith, drop_of_length-le, ◌&&◌}
use Rattle.nfa_compiler.specs.Common.{meaning, Parsed, res_of, all_begin_at_start, begins_at_start}
use Rattle.nfa_compiler.specs.declared.loops.Form.{Form}
use Rattle.nfa_compiler.proofs.UnboundLemmas.{drop-back}
use Rattle.nfa_compiler.proofs.loops.all_begin_at_start.Goals as goal

pub loop-index-init : goal.loop-index-init
loop-index-init c =
    rw (drop_of_length-le c.args.patterns.now {i = length c.args.patterns.now} (omega arith)) refl

pub loop-index-preserved : goal.loop-index-preserved
loop-index-preserved c =
    let more = drop-back c.args.patterns.now c.loop-index.index _ c.loop-index-test.true c.loop-index.auto.index
    c.index-patterns-index.is in
    ap (λ (f : Form). f.begins_at_start) c.either-all.ensures
    ∙ (ap (λ (f : Form). f.begins_at_start && c.loop-index.all.begins_at_start) c.form_of.ensures
    ∙ (ap (λ (p : Parsed). begins_at_start (meaning p.hir) && c.loop-index.all.begins_at_start)
    (sym c.index-patterns-index.is)
    ∙ (ap (λ (b : Bool). begins_at_start (meaning c.index-patterns-index.result.hir) && b) c.loop-index.invariant
    ∙ ap (λ (l : List Parsed). all_begin_at_start (res_of l)) (sym more))))

-- A part of a part is in all needles in which the part is.
use Rattle.std.proofs.Common.{All, List, ℕ, arith, subst, take, take_all, Vec}
use Rattle.std.specs.declared.alloc.Global.{Global}
use Rattle.std.proofs.lemmas.List.Elements.{All-more, All-weaker}
use Rattle.nfa_grep.specs.Required.{OccursIn}
use Rattle.nfa_grep.proofs.PartLemmas.{occurs-self, occurs-trans}
use Rattle.nfa_grep.proofs.required_literal.shared.shared_by_all.Goals as goal

pub loop-needle-init : goal.loop-needle-init
loop-needle-init c = record { inside = occurs-self c.args.bytes.now; each = λ k d less. absurd (omega (arith, less)) }

pub loop-needle-preserved : goal.loop-needle-preserved
loop-needle-preserved c =
    let inv = c.loop-needle.invariant in
    let old = c.loop-needle.part.now in
    let new = c.shared-part.result.now in
    let needles = c.args.needles.now in
    let i = c.loop-needle.needle-index in
    let before = All-weaker (λ (n : Vec ℕ Global). OccursIn n.items old) (λ (n : Vec ℕ Global). OccursIn n.items new)
    (λ n here. occurs-trans n.items old new here c.shared-part.ensures.inside) (take i needles) inv.each in
    let here = subst (λ (l : List ℕ). OccursIn l new) c.deref.ensures.value c.shared-part.ensures.needle in
    record {
      inside = occurs-trans c.args.bytes.now old new inv.inside c.shared-part.ensures.inside;
      each = All-more (λ (n : Vec ℕ Global). OccursIn n.items new) needles i c.needle-item.result
          c.loop-needle-test.true
          before (subst (λ (n : Vec ℕ Global). OccursIn n.items new) c.needle-item.is here);
    }

pub returns-clause-each : goal.returns-clause-each
returns-clause-each c =
    let part = c.loop-needle.part.now in
    let needles = c.args.needles.now in
    subst (λ (ns : List (Vec ℕ Global)). All (λ (n : Vec ℕ Global). OccursIn n.items part) ns)
    (take_all c.loop-needle.needle-index needles c.loop-needle-test.false) c.loop-needle.invariant.each

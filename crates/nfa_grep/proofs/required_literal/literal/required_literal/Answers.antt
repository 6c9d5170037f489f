-- Bytes of which a part is taken stay required by the patterns before.
use Rattle.std.proofs.Common.{◌≡◌, All, List, ℕ, subst, sym, take, take_all, Vec}
use Rattle.std.specs.declared.alloc.Global.{Global}
use Rattle.std.proofs.lemmas.List.Elements.{All-map, All-more, All-weaker}
use Rattle.std.proofs.lemmas.Result.{IfOk-weaker}
use Rattle.nfa_compiler.specs.Common.{meaning, Parsed, res_of}
use Rattle.nfa_grep.specs.Required.{AreRequired, IsRequired}
use Rattle.nfa_grep.proofs.PartLemmas.{required-part}
use Rattle.nfa_grep.proofs.required_literal.literal.required_literal.Goals as goal

pub loop-pattern-preserved : goal.loop-pattern-preserved
loop-pattern-preserved c =
    let old = c.loop-pattern.bytes.now in
    let new = c.in_ok-bytes.bytes.now in
    let patterns = c.args.patterns.now in
    let i = c.loop-pattern.pattern-index in
    let before = All-weaker (λ (p : Parsed). IsRequired old (meaning p.hir))
    (λ (p : Parsed). IsRequired new (meaning p.hir))
    (λ p required. required-part (meaning p.hir) old new c.in_ok-bytes.ensures.inside required) (take i patterns)
    c.loop-pattern.invariant in
    All-more (λ (p : Parsed). IsRequired new (meaning p.hir)) patterns i c.pattern-item.result c.loop-pattern-test.true
    before
    (subst (λ (p : Parsed). IsRequired new (meaning p.hir)) c.pattern-item.is c.in_ok-bytes.ensures.required)

pub returns : goal.returns
returns c =
    let bytes = c.loop-pattern.bytes.now in
    let patterns = c.args.patterns.now in
    let all : All (λ (p : Parsed). IsRequired bytes (meaning p.hir)) patterns =
    subst (λ (ps : List Parsed). All (λ (p : Parsed). IsRequired bytes (meaning p.hir)) ps)
    (take_all c.loop-pattern.pattern-index patterns c.loop-pattern-test.false) c.loop-pattern.invariant in
    IfOk-weaker c.from_slice.result (λ (v : Vec ℕ Global). v.items ≡ bytes)
    (λ (v : Vec ℕ Global). AreRequired (res_of patterns) v.items)
    (λ v is. subst (AreRequired (res_of patterns)) (sym is)
    (All-map (IsRequired bytes) (λ (p : Parsed). meaning p.hir) patterns all)) c.from_slice.ensures.items

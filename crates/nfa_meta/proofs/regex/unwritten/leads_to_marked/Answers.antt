-- The state is no Match, and its targets are marked.
use Rattle.nfa_paths.proofs.Common.{◌≡◌, ◌∙◌, All, node_of, subst, sym}
use Rattle.nfa_paths.specs.StatePaths.{targets}
use Rattle.nfa_meta.specs.AlwaysSet.{IsMarked}
use Rattle.nfa_meta.proofs.AlwaysSetLemmas.{leads_by_all}
use Rattle.nfa_meta.proofs.regex.unwritten.leads_to_marked.Goals as goal

pub returns : goal.returns
returns c = λ yes.
    let marks = c.args.marks.now in
    let node = node_of c.args.state.now in
    let same : c.deref.result.now ≡ targets node = c.deref.ensures.value ∙ c.in_ok-targets.ensures in
    leads_by_all c.args.slot marks node (sym c.is_match.ensures ∙ c.if-is_match.false)
    (subst (All (IsMarked marks)) same (c.are_marked.ensures yes))

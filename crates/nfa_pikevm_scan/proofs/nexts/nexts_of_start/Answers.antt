-- The start state is followed with the slots as its row.
use Rattle.nfa_paths.proofs.Common.{None, ap, inl, inr, refl, replicate, sym, ◌∙◌}
use Rattle.nfa_pikevm_scan.proofs.RowLemmas.{is_none_of}
use Rattle.nfa_pikevm_scan.proofs.SlotsSinkLemmas.{NextsGive-start}
use Rattle.nfa_pikevm_scan.proofs.nexts.nexts_of_start.Goals.{else-is_none, then-is_none}
use Rattle.nfa_pikevm_scan.proofs.nexts.nexts_of_start.Goals as goal

pub returns-clause-crosses : goal.returns-clause-crosses
returns-clause-crosses c =
    let hit = c.next_match-hit.result in
    let finds = rw (c.clear.ensures, c.requires.empty) at c.next_match-hit.ensures.finds in
    let h = NextsGive-start hit c.is_none.ensures
    (elim c.if-is_none.branch [
      | then-is_none w ↦ inl (
        w.if-is_none.true,
        w.slots-is ∙ w.unset_row.ensures
            ∙ ap (λ n. replicate n None) c.next_match-hit.auto.row ∙ sym c.requires.unset,
      )
      | else-is_none w ↦ inr (w.if-is_none.false, w.slots-is)
    ]) (λ none. rw (c.next_match-hit.ensures.over (is_none_of hit none)) refl) finds in
    rw (c.swap_state_sets.ensures.seen, c.swap_state_sets.ensures.curr, ← c.requires.unset) h

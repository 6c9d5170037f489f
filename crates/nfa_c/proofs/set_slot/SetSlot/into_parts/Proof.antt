-- `into_parts` hands out the pointer and what it owns.
use Rattle.std.proofs.Common.{◌≡◌, List, [], ◌∷◌, ◌++◌, refl, sym, subst}
use Rattle.std.specs.Prelude.{Some, is_some, true}
use mir.Val.{Val, vptr}
use base.Logic.{SProp, emp, ent, id⊢}
use base.Fml.{ftrue, fsep}
use prog.Wp.{WpFn}
use types.Kit.{‵, raw, ◌⊛◌, ◌$◌, ◌∵◌, !, qed, by, move, keep, split, fsplit3, fjoin, suffices, use0}
use types.Run.{stop, fld, of_opd, no_more, and_then, returns, enter}
use types.ByLocal.{alloc_all, pass_all, free_all, look_at, get, get_in, sets}
use types.Part.{agg, sub, whole}
use contract.Running.{tables}
use contract.Monad.{fact, fact_i}
use denote.Exit.{yes}
use denote.RawPtr.{block_ptr}
use denote.Signature.{plain}
use denote.Steps.{nothing, heard}
use denote.Triple.Entry.{alive}
use denote.Triple.Walked.{Stays, stay_dropped, walk_of}
use Rattle.core.proofs.alloc.Calls.{Goes-blank, handle_tells}
use Rattle.std.proofs.raw_atomic.Walks.{proved_at, leaves}
use Rattle.nfa_c.proofs.SetSlotSteps.{R, Slot, slot_out}
use Rattle.nfa_c.proofs.SlotSteps.{Z, al, word, both, both_good, inside, parts_in}
use Rattle.nfa_c.specs.contracts.set_slot.SetSlot.into_parts.{ended, clauses}
use Rattle.nfa_c.specs.contracts.set_slot.SetSlot.into_parts.Key.{name as #self}
use Rattle.nfa_c.proofs.set_slot.SetSlot.into_parts.Statement.{statement}
use Rattle.nfa_c.proofs.set_slot.SetSlot.into_parts.Code as code

pub into_parts_spec : {M : Type 1} → statement M
into_parts_spec 𝓤 𝓛 𝓜 𝓡 wired =
    let H = 𝓛.H in let 𝓣 = tables 𝓤 H 𝓜 𝓡 𝓡.env in let c = clauses 𝓛 𝓜.mem 𝓡.returns in let fn = code.function in
    let hs : Stays ended.signature.params ended.kept =
    (stay_dropped (plain (λ _. Slot)) yes, (stay_dropped (plain (λ _. Z)) yes, tt)) in
    proved_at 𝓛 ended hs c 𝓜 𝓡 (
      Goes-blank 𝓛 0 (plain (λ _. Slot)) yes (λ κs x f. tt),
      (Goes-blank 𝓛 0 (plain (λ _. Z)) yes (λ κs x f. tt), tt),
    )
    #self fn (code.unfolded 𝓤 H 𝓜 𝓡 wired) (λ z are.
    let κs = z.0.0 in let qs = z.0.1 in let v = z.0.3.0 in let a = z.0.3.1.0 in
    let Post : Val → SProp 𝓤 = (walk_of 𝓛 ended hs c).post z in
    let Run : List Val → SProp 𝓤 = λ ws. WpFn 𝓤 H 𝓣.C 𝓣.Λ fn ws Post in
    let Asked : Type 0 = is_some v.value ≡ true in
    qed 𝓛 ((raw (alive 𝓛 ended.signature κs qs)
    ⊛ ‵ (fsep (Slot.own_val v z.0.4.0) (fsep (Z.own_val a z.0.4.1.0) ftrue))) ∷ raw (fact 𝓤 Asked) ∷ []) ∵
    move ! (1 ∷ []) $ heard ! Asked (λ asked.
    let x : R.Denot = (inside v.value asked).0 in let is : v.value ≡ Some x = (inside v.value asked).1 in
    let Told : Type 0 = v.value ≡ Some x in
    split ! $ move ! (1 ∷ []) $ fsplit3 ! $
    slot_out ! v z.0.4.0 x is (λ b o e ws. move ! (1 ∷ []) $
    handle_tells al ! a z.0.4.1.0 (λ h ea fits. move ! (1 ∷ []) $
    let us : List Val = word (vptr b o) ∷ h ∷ [] in
    suffices ! (Run us) (subst (λ (us' : List Val). ent 𝓤 (Run us) (Run us')) (sym (λ i. ws i ++ (ea i ++ [])))
    (id⊢ 𝓤 (Run us))) $
    enter ! 𝓣.C 𝓣.Λ fn us Post $ alloc_all ! (λ l. pass_all ! refl ((tt, (tt, tt)), (fits, tt)) $
    sets ! (of_opd ! (get_in ! (fld ! refl (stop !)) (sub ! 0 refl (whole !)))) refl (tt, tt) $
    sets ! (agg ! (and_then ! (get ! refl) (and_then ! (get ! refl) (no_more !)))) refl (both_good b o h fits) $
    parts_in R ! b o h a x $ use0 𝓛 (raw (fact 𝓤 Told)) (fact_i 𝓤 Told (emp 𝓤) is) $
    nothing ! $ nothing ! $ fjoin ! $ nothing ! $ fjoin ! $
    returns ! (look_at ! 0 refl) $ free_all ! refl $ keep ! (4 ∷ 0 ∷ 2 ∷ 1 ∷ []) $
    by ! (leaves 𝓛 ended hs c z (both (vptr b o) h) (record { block = block_ptr b o; alloc = a; value = x })
    (tt, (tt, tt)) (tt, (tt, tt))))))))

-- Steps of a walk that takes a `Slot` apart, or makes one. Assumes `Logic`.
use Rattle.std.proofs.Common.{◌≡◌, ℕ, List, [], ◌∷◌, ◌++◌, refl, subst}
use seplogic.Ra.Ura.{Ura}
use mir.Val.{Val, vptr, vstruct, of_list}
use mir.Raw.{raw as bare}
use base.Logic.{never, fst∗}
use types.Logic.{Logic, sem}
use types.Kit.{Item, Goal, Seq, Step, step, ‵, ◌$◌, drop, fsplit, fjoin, fpick, fpack, rewrite, feq_i, feq_l}
use denote.RattleType.{RattleType, Valss}
use denote.Builtin.{RawPtr}
use denote.Memory.{lone}
use denote.RawPtr.{Ptr, block_ptr, null_ptr, ptr_val, in_a_block}
use denote.Steps.{nothing}
use denote.Struct.Struct.{within}
use denote.Struct.Owning.{shape}
use Rattle.std_alloc.specs.Box.Ownership.{box_owns}
use Rattle.std.specs.Prelude.{Option, Some}
use Rattle.nfa_c.proofs.SlotSteps.{word}
use Rattle.nfa_c.specs.Held.{chunk, held}
use Rattle.nfa_c.specs.contracts.handle.Compiled as compiled
use Rattle.nfa_c.specs.contracts.slot.Slot as slot

abbrev pub R : RattleType
R = compiled.the_row

abbrev pub Slot : RattleType
Slot = slot.the_row

module _ {M : Type 1} {𝓤 : Ura M} {𝓛 : Logic 𝓤} {K : Type 0} {Γ : List (Item 𝓤)} {G : Goal 𝓤 𝓛.H} where
  -- A pointer and what it owns are a slot.
  pub slot_in : K → (p : Ptr) (v : Option R.Denot)
      → Step K 𝓛 (‵ (Slot.own_val (record { at = p; value = v }) (word (ptr_val p) ∷ [])) ∷ Γ) G
      (‵ (held R p v) ∷ Γ) G
  slot_in t p v = step (λ s. let w : Val = word (ptr_val p) in
      nothing t $ feq_i t (List Val) (ptr_val p ∷ []) (ptr_val p ∷ []) refl $ fjoin t $
      feq_i t (List Val) (w ∷ []) (w ∷ []) refl $ fjoin t $
      fpack t (Valss (RawPtr ∷ [])) (within (shape slot.the_type) (p, tt) (w ∷ [])) (ptr_val p ∷ [], tt) $
      fjoin t $ s)

  -- A slot with a value is a pointer and the box of the value.
  pub slot_out : K → (d : Slot.Denot) (vs : List Val) (x : R.Denot) → d.value ≡ Some x
      → ((b o : ℕ) → d.at ≡ block_ptr b o → vs ≡ word (vptr b o) ∷ []
      → Seq K 𝓛 (‵ (box_owns chunk R (block_ptr b o) x) ∷ Γ) G)
      → Seq K 𝓛 (‵ (Slot.own_val d vs) ∷ Γ) G
  slot_out t d vs x is k =
      fsplit t $ fpick t (λ vss. fsplit t $ feq_l t (λ ev. fsplit t $ feq_l t (λ ep. drop t $
      rewrite t 0 (λ (v : Option R.Denot). ‵ (held R d.at v)) is refl $
      in_a_block t d.at (λ p. box_owns chunk R p x)
      (fst∗ 𝓤 (never 𝓤) (sem 𝓛 (chunk (bare (lone R.mir)) null_ptr))) (λ b o e. k b o e
      (subst (λ (p : Ptr). vs ≡ vstruct (of_list (ptr_val p ∷ [])) ∷ []) e
      (subst (λ (ps : List Val). vs ≡ vstruct (of_list (ps ++ [])) ∷ []) ep ev))))))

-- A box and its parts own the same: the rows of both, and steps between them. Assumes `Logic`.
use Rattle.std.proofs.Common.{◌≡◌, ℕ, List, [], ◌∷◌, refl, sym}
use seplogic.Ra.Ura.{Ura}
use mir.Val.{Val}
use base.Logic.{id⊢}
use types.Logic.{Logic}
use types.Kit.{Goal, Item, Seq, Step, step, ‵, ◌$◌, fjoin, rewrite, use1}
use denote.RattleType.{RattleType}
use denote.RawPtr.{Ptr, RawPtr}
use denote.Struct.Tuple.{Tuple}
use Rattle.core.proofs.alloc.Calls.{Fits, token}
use Rattle.std_alloc.specs.Box.Ownership.{box_owns}
use Rattle.std_alloc.proofs.BoxSteps.Form.{B, Bx, D, P, R, X, word}
use Rattle.std_alloc.proofs.BoxSteps.Steps.{box_in, box_out}
use Rattle.nfa_c.specs.contracts.parts.Parts as parts

-- the row of the parts of a box
abbrev pub Apart : Bx → RattleType
Apart E = parts.the_row (R E) (P E) E.al.g

-- the row of a pointer and an allocator
abbrev pub Pair : Bx → RattleType
Pair E = Tuple (RawPtr ∷ P E ∷ [])

-- a pointer and an allocator, with the value that the pointer's block has, are a box
abbrev pub box_of : (E : Bx) → Ptr → E.al.row.Denot → X E → D E
box_of E p a x = record { ptr = p; alloc = a; value = x }

-- and are its parts
abbrev pub parts_of : (E : Bx) → Ptr → E.al.row.Denot → X E → (Apart E).Denot
parts_of E p a x = record { block = p; alloc = a; value = x }

module _ (E : Bx) {M : Type 1} {𝓤 : Ura M} {𝓛 : Logic 𝓤} {K : Type 0} {Γ : List (Item 𝓤)} {G : Goal 𝓤 𝓛.H} where
  -- A box is stored as one machine value.
  pub stored : K → (d : D E) (vs : List Val)
      → ((h : Val) (b o : ℕ) → vs ≡ word E h b o ∷ [] → Fits E.al h
      → Seq K 𝓛 (‵ ((B E).own_val d (word E h b o ∷ [])) ∷ Γ) G)
      → Seq K 𝓛 (‵ ((B E).own_val d vs) ∷ Γ) G
  stored t d vs k = box_out E t d vs (λ b o h at is fits. box_in E t d b o d.value at refl $ k h b o is fits)

  -- A pair and what its block owns are a box.
  pub boxed : K → (r : Ptr × E.al.row.Denot) (a : E.al.row.Denot) (x : X E) (v : Val) → r.1 ≡ a
      → Step K 𝓛 (‵ ((B E).own_val (box_of E r.0 r.1 x) (v ∷ [])) ∷ Γ) G
      (‵ ((Pair E).own_val r (v ∷ [])) ∷ ‵ (box_owns (token E.al a) (R E) r.0 x) ∷ Γ) G
  boxed t r a x v same = step (λ s.
      rewrite t 1 (λ (c : E.al.row.Denot). ‵ (box_owns (token E.al c) (R E) r.0 x)) (sym same) refl $
      fjoin t $ use1 𝓛 (‵ ((B E).own_val (box_of E r.0 r.1 x) (v ∷ []))) (id⊢ 𝓤 _) $ s)

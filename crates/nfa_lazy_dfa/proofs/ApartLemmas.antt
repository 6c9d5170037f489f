-- States that do not lead to a state over a byte.
use Rattle.std.proofs.Math.ListN.{get_or-map}
use Rattle.nfa_paths.proofs.Common.{◌≡◌, ◌<◌, ℕ, suc, List, [], ◌∷◌, length, map, get_or, refl, ap, sym, ◌∙◌, inl, inr, arith, Option, None, Some, option_and_then, slice_get, cases_Bool, cases_lt, get_or_past, get_or_from_slice_get, slice_get_within, Automaton, Node, node_of, first_target, holds_byte, node_at, target_on, Fail, State, Transition}
use Rattle.thompson_nfa.specs.declared.state.State.TheVariants as variant

never-none : (s : ℕ) → None ≡ Some s → ⊥
never-none s e = cc

-- no transition leads there
pub first-apart : (ts : List Transition) (s byte : ℕ)
    → ((j : ℕ) (d : Transition) → j < length ts → (get_or ts j d).next ≡ s → ⊥) → first_target ts byte ≡ Some s → ⊥
first-apart [] s byte all e = never-none s e
first-apart (t ∷ ts) s byte all e =
    elim (cases_Bool (holds_byte t byte)) [
      | inl holds ↦
          let is : Some t.next ≡ Some s = rw holds at e in
          let same : t.next ≡ s = cc in
          all 0 t (omega arith) same
      | inr passes ↦ first-apart ts s byte (λ j d less. all (suc j) d (omega arith)) (rw passes at e)
    ]

-- no target is the state
pub targets-apart : (ts : List (Option ℕ)) (s byte : ℕ)
    → ((j : ℕ) (d : Option ℕ) → j < length ts → get_or ts j d ≡ Some s → ⊥)
    → option_and_then (λ target. target) (slice_get ts byte) ≡ Some s → ⊥
targets-apart ts s byte all = of (slice_get ts byte) refl
  where
    of : (o : Option (Option ℕ)) → slice_get ts byte ≡ o → option_and_then (λ target. target) o ≡ Some s → ⊥
    of None at e = never-none s e
    of (Some target) at e =
        all byte target (slice_get_within ts byte target at) (get_or_from_slice_get ts byte target target at ∙ e)

-- no state leads there
pub states-apart : (nfa : Automaton) (states : List State) (s : ℕ) → map node_of states ≡ nfa.states
    → ((k : ℕ) → k < length states → (byte : ℕ)
    → target_on (node_of (get_or states k variant.Fail)) byte ≡ Some s → ⊥)
    → (q byte : ℕ) → target_on (node_at nfa q) byte ≡ Some s → ⊥
unfolding node_at
states-apart nfa states s same all q byte e =
    let node : get_or nfa.states q Fail ≡ node_of (get_or states q variant.Fail) =
    ap (λ (nodes : List Node). get_or nodes q Fail) (sym same) ∙ get_or-map node_of states q variant.Fail in
    elim (cases_lt q (length states)) [
      | inl less ↦ all q less byte (rw node at e)
      | inr past ↦
          never-none s (rw (node, get_or_past states q variant.Fail past) at e)
    ]

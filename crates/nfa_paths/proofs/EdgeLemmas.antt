-- What an edge of a pair does: it stays at the position, or reads the byte there.
use Rattle.nfa_paths.proofs.Common.{◌≡◌, ◌⊎◌, inl, inr, ℕ, ◌+◌, refl, sym, ap, subst, Option, None, Some, true, option_map, option_to_list, cases_Bool, Search, Node, Pair, In, byte_at, edges_of, epsilon_states, holding_at, rests, target_on}
use Rattle.nfa_paths.proofs.MemberLemmas.{In-mapped}
use Rattle.nfa_paths.proofs.StartLemmas.{byte_pairs, epsilon-edges, resting-edges}

module _ (x : Search) (node : Node) (at : ℕ) (w : Pair) where
  -- over the byte at the position the state leads to the pair
  pub record LeadsOver : Type 0 where
    pub rests : rests node ≡ true
    pub byte : ℕ
    pub is : byte_at x at ≡ Some byte
    pub target : target_on node byte ≡ Some w.0
    pub next : w.1 ≡ at + 1

  target-read : rests node ≡ true → (b : ℕ) → byte_at x at ≡ Some b → (t : Option ℕ) → target_on node b ≡ t
      → In w (option_to_list (option_map (λ next. (next, at + 1)) t)) → LeadsOver
  target-read still b e None none i = absurd i
  target-read still b e (Some t) some (inl same) = record {
    rests = still;
    byte = b;
    is = e;
    target = subst (λ (z : Pair). target_on node b ≡ Some z.0) (sym same) some;
    next = ap (λ (z : Pair). z.1) same;
  }
  target-read still b e (Some t) some (inr never) = absurd never

  byte-read : rests node ≡ true → (o : Option ℕ) → byte_at x at ≡ o → In w (byte_pairs node at o) → LeadsOver
  byte-read still None e i = absurd i
  byte-read still (Some b) e i = target-read still b e (target_on node b) refl i

  -- an edge leads to a state at the position, or over the byte there
  pub edge-is : In w (edges_of x node at)
      → ((w.1 ≡ at) × In w.0 (epsilon_states (holding_at x.haystack at) node)) ⊎ LeadsOver
  edge-is i =
      elim (cases_Bool (rests node)) [
        | inl still ↦ inr (byte-read still (byte_at x at) refl (rw (resting-edges x node at still) at i))
        | inr leads ↦
            let states = epsilon_states (holding_at x.haystack at) node in
            let of = In-mapped (λ s. (s, at)) w states (rw (epsilon-edges x node at leads) at i) in
            inl (ap (λ (z : Pair). z.1) of.2, subst (λ (z : Pair). In z.0 states) (sym of.2) of.1)
      ]

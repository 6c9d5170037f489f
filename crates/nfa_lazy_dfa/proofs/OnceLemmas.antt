-- A list of states without those that it has further left: the same closures.
use Rattle.nfa_paths.proofs.Common.{ℕ_discrete, ◌≡◌, ℕ, ◌+◌, ◌<◌, inl, inr, Bool, true, false, List, [], ◌∷◌, ◌++◌, length, get_or, set, drop, replicate, refl, ap, sym, ◌∙◌, arith, append_assoc, get_or-set_other, length-append, length-set, drop_more, get_or-replicate, length-replicate, Automaton, In, Holding}
use Rattle.nfa_lazy_dfa.specs.Closures.{closure}
use Rattle.nfa_lazy_dfa.proofs.ExploreLemmas.{unseen, unseen-all, unseen-set}
use Rattle.nfa_lazy_dfa.proofs.ClosureLemmas.{closure-repeat}

In-last : (s : ℕ) (before : List ℕ) → In s (before ++ s ∷ [])
In-last s [] = inl refl
In-last s (t ∷ before) = inr (In-last s before)

In-front : (s : ℕ) (before states : List ℕ) → In s before → In s (before ++ states)
In-front s [] states i = absurd i
In-front s (t ∷ before) states (inl e) = inl e
In-front s (t ∷ before) states (inr i) = inr (In-front s before states i)

append-none : (xs : List ℕ) (y : ℕ) → xs ++ y ∷ [] ≡ [] → ⊥
append-none [] y e = cc
append-none (x ∷ xs) y e = cc

-- the first i states of the list, each once, and the marks of these
pub record IsOnce (nfa : Automaton) (states : List ℕ) (i : ℕ) (once : List ℕ) (seen : List Bool) : Type 0 where
  pub size : length seen ≡ length nfa.states
  pub marked : (s : ℕ) → s < length seen → get_or seen s true ≡ true → In s once
  pub same : (holding : Holding) → closure nfa holding (once ++ drop i states) ≡ closure nfa holding states
  pub none : once ≡ [] → i ≡ 0
  pub count : length once + unseen seen ≡ length nfa.states

module _ (nfa : Automaton) (states : List ℕ) where
  pub IsOnce-begin : IsOnce nfa states 0 [] (replicate (length nfa.states) false)
  IsOnce-begin = record {
    size = length-replicate (length nfa.states) false;
    marked = λ s less is.
        let within : s < length nfa.states = omega (arith, length-replicate (length nfa.states) false) in
        absurd (never (get_or (replicate (length nfa.states) false) s true) is
        (get_or-replicate (length nfa.states) s false true within));
    same = λ holding. refl;
    none = λ e. refl;
    count = omega (arith, unseen-all (length nfa.states));
  }
    where
      never : (b : Bool) → b ≡ true → b ≡ false → ⊥
      never true e f = cc
      never false e f = cc

  module _ (i : ℕ) (once : List ℕ) (seen : List Bool) (is : IsOnce nfa states i once seen) (s : ℕ)
      (within : i < length states) (at : s ≡ get_or states i s) where
    drop-here : drop i states ≡ s ∷ drop (i + 1) states
    drop-here = drop_more states i s within ∙ ap (λ t. t ∷ drop (i + 1) states) (sym at)

    pub IsOnce-fresh : get_or seen s true ≡ false
        → IsOnce nfa states (i + 1) (once ++ s ∷ []) (set seen s true)
    IsOnce-fresh fresh = record {
      size = simp length-set is.size;
      marked = λ t less marked.
          elim (ℕ_discrete t s) [
            | yes e ↦ rw e (In-last s once)
            | no n ↦
                let inside : t < length seen = simp length-set at less in
                In-front t once (s ∷ []) (is.marked t inside (sym (get_or-set_other seen s t true true n) ∙ marked))
          ];
      same = λ holding.
          ap (closure nfa holding) (append_assoc once (s ∷ []) (drop (i + 1) states)
          ∙ ap (λ (more : List ℕ). once ++ more) (sym drop-here)) ∙ is.same holding;
      none = λ e. absurd (append-none once s e);
      count = omega (arith, is.count, unseen-set seen s fresh, length-append once (s ∷ []));
    }

    pub IsOnce-again : s < length seen → get_or seen s true ≡ true → IsOnce nfa states (i + 1) once seen
    IsOnce-again inside was = record {
      size = is.size;
      marked = is.marked;
      same = λ holding.
          sym (closure-repeat nfa holding once (drop (i + 1) states) s (is.marked s inside was))
          ∙ ap (λ (more : List ℕ). closure nfa holding (once ++ more)) (sym drop-here) ∙ is.same holding;
      none = λ e. absurd (rw e at is.marked s inside was);
      count = is.count;
    }

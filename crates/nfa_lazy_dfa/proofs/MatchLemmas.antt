-- The matches among the states at a position, and what was found of them.
use Rattle.nfa_paths.proofs.Common.{arith, ◌≡◌, ℕ, ◌⊎◌, inl, inr, true, false, List, [], ◌∷◌, ◌++◌, map, refl, ap, Option, None, Some, cond, is_some, option_map, option_and_then, option_or, HalfFound, Automaton, Pair, In, Hit, found_along, last_match, is_match, path_half, half_at}
use Rattle.nfa_lazy_dfa.specs.Closures.{state_pattern, first_pattern, last_pattern, before_first_match}
use Rattle.nfa_lazy_dfa.proofs.FollowLemmas.{place}

module _ (nfa : Automaton) where
  -- the pattern and the position of a pair, if its state is a Match
  abbrev pub pair_half : Pair → Option HalfFound
  pair_half v = option_map (half_at v.1) (state_pattern nfa v.0)

  -- those of what was found
  abbrev pub half_of : Hit → Option HalfFound
  half_of g = option_and_then (λ a. pair_half a.0) g

  -- no state is a Match
  abbrev pub NoneMatches : List ℕ → Type 0
  NoneMatches states = (s : ℕ) → In s states → is_some (state_pattern nfa s) ≡ true → ⊥

  -- the first Match, with the states around it
  pub record FirstIn (states : List ℕ) : Type 0 where
    pub pattern : ℕ
    pub state : ℕ
    pub after : List ℕ
    pub split : states ≡ before_first_match nfa states ++ state ∷ after
    pub is : state_pattern nfa state ≡ Some pattern
    pub first : first_pattern nfa states ≡ Some pattern
    pub plain : NoneMatches (before_first_match nfa states)

  -- there is none
  pub record NoneIn (states : List ℕ) : Type 0 where
    pub first : first_pattern nfa states ≡ None
    pub kept : before_first_match nfa states ≡ states
    pub plain : NoneMatches states

  pub first-is : (states : List ℕ) → NoneIn states ⊎ FirstIn states
  first-is [] = inl (record { first = refl; kept = refl; plain = λ s i m. i })
  first-is (s ∷ states) = of (state_pattern nfa s) refl (first-is states)
    where
      never : (t : ℕ) → t ≡ s → state_pattern nfa s ≡ None → is_some (state_pattern nfa t) ≡ true → ⊥
      never t same none m = let no : false ≡ true = rw (same, none) at m in absurd (cc no)

      of : (o : Option ℕ) → state_pattern nfa s ≡ o → NoneIn states ⊎ FirstIn states
          → NoneIn (s ∷ states) ⊎ FirstIn (s ∷ states)
      of (Some k) e rest = inr (record {
        pattern = k;
        state = s;
        after = states;
        split = rw e refl;
        is = e;
        first = rw e refl;
        plain = rw e (λ t i m. i);
      })
      of None e (inl rest) = inl (record {
        first = rw e rest.first;
        kept = rw e (ap (λ (ts : List ℕ). s ∷ ts) rest.kept);
        plain = λ t i m. elim i [ inl here ↦ never t here e m | inr j ↦ rest.plain t j m ];
      })
      of None e (inr rest) = inr (record {
        pattern = rest.pattern;
        state = rest.state;
        after = rest.after;
        split = rw e (ap (λ (ts : List ℕ). s ∷ ts) rest.split);
        is = rest.is;
        first = rw e rest.first;
        plain = rw e (λ t i m. elim i [ inl here ↦ never t here e m | inr j ↦ rest.plain t j m ]);
      })

  -- the last match of what was put aside is the last one of the states, or what was found before
  pub half-last : (at : ℕ) (states : List ℕ) (g : Hit)
      → half_of (last_match (is_match nfa) g (map (place at) states))
      ≡ option_or (option_map (half_at at) (last_pattern nfa states)) (half_of g)
  half-last at [] g = refl
  half-last at (s ∷ states) g =
      grind (arith, half-last at states (cond (is_match nfa (s, at)) (Some (place at s)) g))

  -- what is found along a path is its pattern and its end
  pub half-found : (path : Option (List Pair))
      → option_and_then (path_half nfa) path ≡ half_of (found_along (λ v. None) path [])
  half-found path = grind arith

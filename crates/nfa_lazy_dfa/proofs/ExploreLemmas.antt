-- What an exploration keeps: states that rest, each once, of those that were not seen before.
use Rattle.nfa_paths.proofs.Common.{◌≡◌, ℕ, zero, suc, ◌≤◌, ◌<◌, inl, inr, Bool, true, false, List, [], ◌∷◌, ◌++◌, length, replicate, get_or, set, refl, ap, ◌∙◌, arith, get_or-set_other, cases_Bool, length-replicate, Automaton, In, rests, node_at, Holding, epsilon_states, NoRepeats}
use Rattle.nfa_lazy_dfa.specs.Closures.{closure, explore}

-- how many states were not seen
abbrev pub unseen : List Bool → ℕ
unseen [] = 0
unseen (true ∷ seen) = unseen seen
unseen (false ∷ seen) = suc (unseen seen)

-- to see a state leaves one less
pub unseen-set : (seen : List Bool) (s : ℕ) → get_or seen s true ≡ false
    → unseen seen ≡ suc (unseen (set seen s true))
unseen-set [] s clear = cc
unseen-set (true ∷ seen) zero clear = cc
unseen-set (true ∷ seen) (suc s) clear = unseen-set seen s clear
unseen-set (false ∷ seen) zero clear = refl
unseen-set (false ∷ seen) (suc s) clear = ap suc (unseen-set seen s clear)

-- when none is left, each was seen
pub unseen-none : (seen : List Bool) → unseen seen ≡ 0 → (s : ℕ) → get_or seen s true ≡ true
unseen-none [] none s = refl
unseen-none (true ∷ seen) none zero = refl
unseen-none (true ∷ seen) none (suc s) = unseen-none seen none s
unseen-none (false ∷ seen) none s = let never : suc (unseen seen) ≡ 0 = none in absurd (omega arith)

-- at first none was seen
pub unseen-all : (n : ℕ) → unseen (replicate n false) ≡ n
unseen-all zero = refl
unseen-all (suc n) = ap suc (unseen-all n)

-- a number that is neither seen nor unseen is of no state
pub seen-past : (seen : List Bool) (s : ℕ) → get_or seen s true ≡ true → get_or seen s false ≡ false
    → length seen ≤ s
seen-past [] s t f = omega arith
seen-past (b ∷ seen) zero t f = cc
seen-past (b ∷ seen) (suc s) t f = grind (arith, seen-past seen s)

-- what was not seen is the number of a state
pub unseen-inside : (seen : List Bool) (s : ℕ) → get_or seen s true ≡ false → suc s ≤ length seen
unseen-inside [] s f = cc
unseen-inside (b ∷ seen) zero f = omega arith
unseen-inside (b ∷ seen) (suc s) f = let k : suc s ≤ length seen = unseen-inside seen s f in omega arith

-- what is still not seen was not seen before
seen-before : (seen : List Bool) (w s : ℕ) → get_or seen w true ≡ false → get_or (set seen w true) s true ≡ false
    → get_or seen s true ≡ false
seen-before seen w s f h = grind (arith, get_or-set_other)

-- a state that is seen now is seen, and so are those that were
pub seen-itself : (seen : List Bool) (s : ℕ) → get_or (set seen s true) s true ≡ true
seen-itself [] s = refl
seen-itself (b ∷ seen) zero = refl
seen-itself (b ∷ seen) (suc s) = seen-itself seen s

pub seen-still : (seen : List Bool) (s t : ℕ) → get_or seen t true ≡ true → get_or (set seen s true) t true ≡ true
seen-still seen s t k = grind (arith, seen-itself, get_or-set_other)

module _ (nfa : Automaton) (holding : Holding) where
  -- with no state left to see nothing is kept
  pub explore-none : (seen : List Bool) (waiting : List ℕ) → explore nfa holding zero seen waiting ≡ []
  unfolding explore
  explore-none seen [] = refl
  explore-none seen (s ∷ waiting) = refl

  -- An exploration, with the states that were seen, those that wait and those that it keeps.
  pub data Explores : List Bool → List ℕ → List ℕ → Type 0 where
    over : {seen : List Bool} → Explores seen [] []
    passes : {seen : List Bool} {s : ℕ} {waiting out : List ℕ} → get_or seen s true ≡ true
        → Explores seen waiting out → Explores seen (s ∷ waiting) out
    keeps : {seen : List Bool} {s : ℕ} {waiting out : List ℕ} → get_or seen s true ≡ false
        → rests (node_at nfa s) ≡ true → Explores (set seen s true) waiting out
        → Explores seen (s ∷ waiting) (s ∷ out)
    opens : {seen : List Bool} {s : ℕ} {waiting out : List ℕ} → get_or seen s true ≡ false
        → rests (node_at nfa s) ≡ false
        → Explores (set seen s true) (epsilon_states holding (node_at nfa s) ++ waiting) out
        → Explores seen (s ∷ waiting) out

  explored : (count : ℕ) (seen : List Bool) (waiting : List ℕ) → unseen seen ≤ count
      → Explores seen waiting (explore nfa holding count seen waiting)
  unfolding explore
  explored count seen [] few = over
  explored zero seen (s ∷ waiting) few =
      passes (unseen-none seen (omega arith) s)
      (rw (explore-none seen waiting) at (explored zero seen waiting few))
  explored (suc count) seen (s ∷ waiting) few =
      elim (cases_Bool (get_or seen s true)) [
        | inl t ↦ rw t (passes t (explored (suc count) seen waiting few))
        | inr f ↦
            let fewer : unseen (set seen s true) ≤ count = omega (arith, unseen-set seen s f) in
            elim (cases_Bool (rests (node_at nfa s))) [
              | inl r ↦ rw (f, r) (keeps f r (explored count (set seen s true) waiting fewer))
              | inr r ↦
                  let more = epsilon_states holding (node_at nfa s) ++ waiting in
                  rw (f, r) (opens f r (explored count (set seen s true) more fewer))
            ]
      ]

  -- it keeps what `explore` gives
  pub explore-is : {seen : List Bool} {waiting out : List ℕ} → Explores seen waiting out → (count : ℕ)
      → unseen seen ≤ count → out ≡ explore nfa holding count seen waiting
  unfolding explore
  explore-is over count few = refl
  explore-is (passes {seen = seen} {waiting = waiting} t h) zero few = explore-is h zero few ∙ explore-none seen waiting
  explore-is (passes t h) (suc count) few = rw t (explore-is h (suc count) few)
  explore-is (keeps {seen = seen} {s = s} f r h) zero few = absurd (omega (arith, unseen-set seen s f))
  explore-is (keeps {seen = seen} {s = s} f r h) (suc count) few =
      rw (f, r) (ap (λ (ts : List ℕ). s ∷ ts) (explore-is h count (omega (arith, unseen-set seen s f))))
  explore-is (opens {seen = seen} {s = s} f r h) zero few = absurd (omega (arith, unseen-set seen s f))
  explore-is (opens {seen = seen} {s = s} f r h) (suc count) few =
      rw (f, r) (explore-is h count (omega (arith, unseen-set seen s f)))

  pub closure-explored : (states : List ℕ)
      → Explores (replicate (length nfa.states) false) states (closure nfa holding states)
  closure-explored states =
      explored (length nfa.states) (replicate (length nfa.states) false) states (omega (arith, unseen-all))

  -- the states that are kept rest, and were not seen before
  explore-keeps : {seen : List Bool} {waiting out : List ℕ} → Explores seen waiting out → (s : ℕ) → In s out
      → (rests (node_at nfa s) ≡ true) × (get_or seen s true ≡ false)
  explore-keeps over s i = absurd i
  explore-keeps (passes t h) s i = explore-keeps h s i
  explore-keeps (keeps f r h) s (inl e) = rw e (r, f)
  explore-keeps (keeps {seen = seen} {s = w} f r h) s (inr i) =
      let k = explore-keeps h s i in (k.0, seen-before seen w s f k.1)
  explore-keeps (opens {seen = seen} {s = w} f r h) s i =
      let k = explore-keeps h s i in (k.0, seen-before seen w s f k.1)

  -- each is kept once
  explore-once : {seen : List Bool} {waiting out : List ℕ} → Explores seen waiting out → NoRepeats out
  explore-once over = tt
  explore-once (passes t h) = explore-once h
  explore-once (keeps {seen = seen} {s = s} f r h) =
      (λ i. cc (seen-itself seen s, (explore-keeps h s i).1), explore-once h)
  explore-once (opens f r h) = explore-once h

  -- no more are kept than were not seen
  explore-short : {seen : List Bool} {waiting out : List ℕ} → Explores seen waiting out → length out ≤ unseen seen
  explore-short over = omega arith
  explore-short (passes t h) = explore-short h
  explore-short (keeps {seen = seen} {s = s} f r h) = omega (arith, explore-short h, unseen-set seen s f)
  explore-short (opens {seen = seen} {s = s} f r h) = omega (arith, explore-short h, unseen-set seen s f)

  -- the closure's states
  module _ (states : List ℕ) where
    pub closure-rests : (s : ℕ) → In s (closure nfa holding states)
        → (rests (node_at nfa s) ≡ true) × (s < length nfa.states)
    closure-rests s i =
        let n = length nfa.states in
        let h = explore-keeps (closure-explored states) s i in
        let inside : suc s ≤ length (replicate n false) = unseen-inside (replicate n false) s h.1 in
        (h.0, omega (arith, length-replicate n false))

    pub closure-once : NoRepeats (closure nfa holding states)
    closure-once = explore-once (closure-explored states)

    pub closure-short : length (closure nfa holding states) ≤ length nfa.states
    closure-short = omega (arith, explore-short (closure-explored states), unseen-all)

-- the laws of a closure's states
pub ruleset finite_closures = (closure-once, closure-rests, closure-short)

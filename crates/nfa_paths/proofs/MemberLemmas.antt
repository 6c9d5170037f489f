-- Elements of lists, what an option holds, and sets of pairs as tests.
use Rattle.nfa_paths.proofs.Common.{◌⊎◌, inl, inr, suc, List, [], ◌∷◌, ◌++◌, map, refl, sym, ap, subst, arith, All, In, ◌≡◌, Option, None, Some, option_or, ℕ, Bool, true, false, Pair, WantedAt, Passes}

-- the elements of the first of two lists
pub In-append_left : {A : Type 0} (x : A) (xs ys : List A) → In x xs → In x (xs ++ ys)
In-append_left x [] ys i = absurd i
In-append_left x (y ∷ xs) ys i = elim i [ inl e ↦ inl e | inr j ↦ inr (In-append_left x xs ys j) ]

-- the elements of the second of two lists
pub In-append_right : {A : Type 0} (x : A) (xs ys : List A) → In x ys → In x (xs ++ ys)
In-append_right x [] ys i = i
In-append_right x (y ∷ xs) ys i = inr (In-append_right x xs ys i)

-- an element of two concatenated lists is in one of them
pub In-append : {A : Type 0} (x : A) (xs ys : List A) → In x (xs ++ ys) → In x xs ⊎ In x ys
In-append x [] ys i = inr i
In-append x (y ∷ xs) ys i = grind (arith, In-append x xs ys)

-- an item in the middle
pub In-middle : {A : Type 0} (xs : List A) (x : A) (ys : List A) → In x (xs ++ x ∷ ys)
In-middle xs x ys = In-append_right x xs (x ∷ ys) (inl refl)

-- what an element gives is among what the list gives
pub In-map : {A B : Type 0} (f : A → B) (x : A) (xs : List A) → In x xs → In (f x) (map f xs)
In-map f x [] i = absurd i
In-map f x (y ∷ xs) i = elim i [ inl e ↦ inl (ap f e) | inr j ↦ inr (In-map f x xs j) ]

-- and what that list gives is what an element gives
pub In-mapped : {A B : Type 0} (f : A → B) (y : B) (xs : List A) → In y (map f xs) → (x : A) × In x xs × (y ≡ f x)
In-mapped f y [] i = absurd i
In-mapped f y (x ∷ xs) i = grind (arith, In-mapped f y xs)

-- what holds of all elements holds of each
pub All-In : {A : Type 0} (P : A → Type 0) (xs : List A) → All P xs → (x : A) → In x xs → P x
All-In P [] all x i = absurd i
All-In P (y ∷ xs) all x i = elim i [
  | inl e ↦ subst P (sym e) (all 0 y (omega arith))
  | inr j ↦ All-In P xs (λ k d h. all (suc k) d (omega arith)) x j
]

-- two values that an option holds are one
pub same_some : {A : Type 0} (a b : A) → Some a ≡ Some b → a ≡ b
same_some a b e = cc

-- of three values the first that is there, however they are paired
pub option_or-assoc : {A : Type 0} (a b c : Option A) → option_or (option_or a b) c ≡ option_or a (option_or b c)
option_or-assoc = grind arith

-- nothing to fall back on
pub option_or-None : {A : Type 0} (a : Option A) → option_or a None ≡ a
option_or-None = grind arith

-- a test that exactly the pairs of a set pass
pub record Test (P : Pair → Type 0) : Type 0 where
  pub passes : Pair → Bool
  pub is : (x : Pair) → passes x ≡ true → P x
  pub of : (x : Pair) → P x → passes x ≡ true

-- whether a decidable property holds
test : {A : Type 0} → A ⊎ ¬ A → Bool
test (inl a) = true
test (inr n) = false

-- if the test succeeds, the property holds
test-true : {A : Type 0} (d : A ⊎ ¬ A) → test d ≡ true → A
unfolding test
test-true = grind arith

-- if the property holds, the test succeeds
true-test : {A : Type 0} (d : A ⊎ ¬ A) → A → test d ≡ true
unfolding test
true-test = grind arith

-- the test of a set that each pair is in or not
pub tested : {P : Pair → Type 0} → ((x : Pair) → P x ⊎ ¬ (P x)) → Test P
tested tell = record {
  passes = λ x. test (tell x);
  is = λ x t. test-true (tell x) t;
  of = λ x h. true-test (tell x) h;
}

-- a test does not both fail and succeed
pub is_plain : (b : Bool) → b ≡ false → b ≡ true → ⊥
is_plain b f t = cc

-- tests that imply one another are one
pub same_test : (a b : Bool) → (a ≡ true → b ≡ true) → (b ≡ true → a ≡ true) → a ≡ b
same_test = grind arith

-- it is decidable whether a pair is at e and passes a test
pub tell_at : (wanted : Pair → Bool) (e : ℕ) (v : Pair)
    → WantedAt (Passes wanted) e v ⊎ ¬ (WantedAt (Passes wanted) e v)
tell_at wanted e v = grind arith

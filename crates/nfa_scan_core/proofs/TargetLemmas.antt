-- The targets of byte states, the alternatives of a union, and marks as pairs that were seen.
use Rattle.nfa_paths.proofs.Common.{◌≡◌, ℕ, suc, zero, ◌<◌, ◌≤◌, List, [], ◌∷◌, length, arith, rules, Option, Some, None, true, Bool, All, IfSome, option_and_then, is_some, count_by, cond, if◌then◌else◌, slice_get, sum_by-cons, Node, LeadsBelow, degree, target_on, first_target, holds_byte, ByteRange, Sparse, Dense, Transition, drop, refl, ◌⊎◌, ◌↔◌, false, get_or, set, replicate, Pair}
use Rattle.nfa_scan_core.specs.Marks.{SeenAt}

-- the properties of an optional value that is chosen by a condition
then-some : {A : Type 0} (c : Bool) (a u : A) → (if c then Some a else None) ≡ Some u → (c ≡ true) × (a ≡ u)
then-some = grind arith

first_target-below : (n b u : ℕ) (ts : List Transition) → All (λ t. t.next < n) ts → first_target ts b ≡ Some u → u < n
first_target-below n b u [] below e = cc
first_target-below n b u (t ∷ ts) below e =
    let here : t.next < n = below 0 t (omega arith) in
    let rest : All (λ t. t.next < n) ts = λ k d h. below (suc k) d (omega arith) in
    grind (arith, first_target-below n b u ts rest)

first_target-some : (b u : ℕ) (ts : List Transition) → first_target ts b ≡ Some u → 1 ≤ length ts
first_target-some b u [] e = cc
first_target-some b u (t ∷ ts) e = omega arith

dense-below : (n u : ℕ) (targets : List (Option ℕ)) (b : ℕ) → All (λ o. IfSome o (λ s. s < n)) targets
    → option_and_then (λ t. t) (slice_get targets b) ≡ Some u → u < n
dense-below n u [] b below e = cc
dense-below n u (None ∷ targets) zero below e = cc
dense-below n u (Some t ∷ targets) zero below e =
    let here : t < n = below 0 (Some t) (omega arith) in
    let same : t ≡ u = cc in rw (← same) here
dense-below n u (o ∷ targets) (suc b) below e = dense-below n u targets b (λ k d h. below (suc k) d (omega arith)) e

dense-some : (u : ℕ) (targets : List (Option ℕ)) (b : ℕ) → option_and_then (λ t. t) (slice_get targets b) ≡ Some u
    → 1 ≤ count_by is_some targets
dense-some u [] b e = cc
dense-some u (None ∷ targets) zero e = cc
dense-some u (Some t ∷ targets) zero e = omega (arith, sum_by-cons (λ o. cond (is_some o) 1 0) (Some t) targets)
dense-some u (o ∷ targets) (suc b) e = search (rules, sum_by-cons, dense-some u targets b e)

-- a target is a state
pub target-below : (n : ℕ) (node : Node) (b t : ℕ) → LeadsBelow n node → target_on node b ≡ Some t → t < n
target-below n (ByteRange trans) b t leads e = rw (← (then-some (holds_byte trans b) trans.next t e).1) leads
target-below n (Sparse ts) b t leads e = first_target-below n b t ts leads e
target-below n (Dense targets) b t leads e = dense-below n t targets b leads e
target-below n _ b t leads e = cc

-- and one of the state's edges
pub target-degree : (node : Node) (b t : ℕ) → target_on node b ≡ Some t → 1 ≤ degree node
target-degree = grind (arith, dense-some, first_target-some)

-- the first of a list that is not empty
pub first-drop : (xs : List ℕ) (f : ℕ) → slice_get xs 0 ≡ Some f → xs ≡ f ∷ drop 1 xs
first-drop = grind arith

pub none-nil : (xs : List ℕ) → slice_get xs 0 ≡ None → xs ≡ []
none-nil [] e = refl
none-nil (x ∷ xs) e = cc

-- if at most one is left
pub drop-low : (xs : List ℕ) (left : ℕ) → left ≤ 1 → (left ≡ 0 → length xs ≡ 0) → drop left xs ≡ drop 1 xs
drop-low = grind arith

-- marking a state marks its pair and no other
pub SeenAt-set : (at s : ℕ) (bits : List Bool) → s < length bits → (v : Pair)
    → SeenAt at (set bits s true) v ↔ ((v ≡ (s, at)) ⊎ SeenAt at bits v)
SeenAt-set at s bits inside v = search rules

-- what is not marked was not seen
pub SeenAt-clear : (at s : ℕ) (bits : List Bool) → s < length bits → get_or bits s true ≡ false
    → ¬ (SeenAt at bits (s, at))
SeenAt-clear at s bits inside clear m = search rules

-- no bit of clear bits is set
pub none-set : (n k : ℕ) → get_or (replicate n false) k false ≡ true → ⊥
none-set zero k e = cc
none-set (suc n) zero e = cc
none-set (suc n) (suc k) e = none-set n k e

-- so with no mark nothing was seen
pub SeenAt-none : (at n : ℕ) (v : Pair) → SeenAt at (replicate n false) v → ⊥
SeenAt-none at n v s = none-set n v.0 s.set

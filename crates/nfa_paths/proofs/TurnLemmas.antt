-- The weights of marks, and what they bound.
use Rattle.nfa_paths.proofs.Common.{◌≡◌, ℕ, zero, suc, ◌+◌, ◌*◌, ◌≤◌, ◌<◌, Bool, true, false, List, [], ◌∷◌, ◌++◌, length, get_or, set, sum, arith, get_or_append_left, get_or-append-add, sum_by-cons, sum_by-append, marked_sum, repeated}

-- the sum of a list with one more at its head
sum-cons : (w : ℕ) (ws : List ℕ) → sum (w ∷ ws) ≡ w + sum ws
sum-cons = sum_by-cons (λ x. x)

-- the sum of two lists
sum-append : (xs ys : List ℕ) → sum (xs ++ ys) ≡ sum xs + sum ys
sum-append = sum_by-append (λ x. x)

-- marking what was clear adds its weight
pub marked_sum-set : (ws : List ℕ) (marks : List Bool) (k : ℕ) → get_or marks k true ≡ false
    → marked_sum ws (set marks k true) ≡ marked_sum ws marks + get_or ws k 0
unfolding marked_sum
marked_sum-set [] marks k clear = omega arith
marked_sum-set (w ∷ ws) [] k clear = cc
marked_sum-set (w ∷ ws) (b ∷ marks) k clear = grind (arith, marked_sum-set ws marks)

-- what is marked weighs at most as much as all
pub marked_sum-le : (ws : List ℕ) (marks : List Bool) → marked_sum ws marks ≤ sum ws
unfolding marked_sum
marked_sum-le [] marks = omega arith
marked_sum-le (w ∷ ws) [] = omega arith
marked_sum-le (w ∷ ws) (true ∷ marks) = omega (arith, sum-cons w ws, marked_sum-le ws marks)
marked_sum-le (w ∷ ws) (false ∷ marks) = omega (arith, sum-cons w ws, marked_sum-le ws marks)

-- the weights of several rows
pub sum-repeated : (count : ℕ) (ws : List ℕ) → sum (repeated count ws) ≡ count * sum ws
unfolding repeated
sum-repeated zero ws = omega arith
sum-repeated (suc count) ws = omega (arith, sum-append ws (repeated count ws), sum-repeated count ws)

-- the pair of a state and a position, in a row for each position
pub get_or-repeated : (count : ℕ) (ws : List ℕ) (at s d : ℕ) → at < count → s < length ws
    → get_or (repeated count ws) (at * length ws + s) d ≡ get_or ws s d
unfolding repeated
get_or-repeated zero ws at s d h k = absurd (omega arith)
get_or-repeated (suc count) ws zero s d h k =
    let e : 0 * length ws + s ≡ s = omega arith in rw (e, get_or_append_left ws (repeated count ws) d s k)
get_or-repeated (suc count) ws (suc at) s d h k =
    grind (arith, get_or-append-add, get_or-repeated count ws at s d (omega arith) k)

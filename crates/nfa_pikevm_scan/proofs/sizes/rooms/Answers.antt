-- The room of all states, or none if it exceeds the limit.
use Rattle.nfa_pikevm_scan.proofs.Common.{List, State, arith, cases_lt, get_or, inl, inr, length, node_of, room_of, sum_by, sum_by_more_le, take, ℕ, ◌+◌, ◌<◌, ◌^◌, ◌≡◌, ◌≤◌}
use Rattle.nfa_pikevm_scan.proofs.sizes.rooms.Goals as goal

-- if the frames of some states exceed the largest `usize`, so do those of all
rooms-past : (states : List State) (i : ℕ) (item : State) (sum room : ℕ)
    → sum ≡ sum_by (λ s. room_of (node_of s)) (take i states) → item ≡ get_or states i item
    → room ≡ room_of (node_of item) → i < length states → ¬ (sum + room < 2 ^ 64)
    → 2 ^ 64 ≤ sum_by (λ s. room_of (node_of s)) states
rooms-past states i item sum room so_far is e inside past =
    let more = rw (← is) at (sum_by_more_le (λ s. room_of (node_of s)) states i item inside) in
    elim (cases_lt (sum + room) (2 ^ 64)) [ inl less ↦ absurd (past less) | inr reached ↦ omega (arith, more) ]

pub returns-in_err-sum-clause-past : goal.returns-in_err-sum-clause-past
returns-in_err-sum-clause-past c = grind (arith, rooms-past)

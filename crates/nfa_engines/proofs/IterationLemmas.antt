-- The calls of an iteration: their matches, how many these are, and what a loop over searches keeps.
use Rattle.std.proofs.lemmas.Nat.{le-div}
use Rattle.nfa_paths.proofs.Common.{◌≡◌, zero, suc, rules, subst, ◌*◌, ◌/◌, ◌^◌, ◌<◌, mul-div-le, lt-mul-div-succ, mul-le-mul_left, ◌+◌, ◌≤◌, List, [], ◌∷◌, length, arith, Option, None, Some, Search, Span, span_len, ℕ, ◌-◌, Found}
use Rattle.nfa_search_base.specs.Common.{IterState, fresh, ends_left, AreDisjoint}
use Rattle.nfa_backtrack.specs.Backtrack.{HoldsNoMore, rounded_bits}
use Rattle.nfa_pikevm.specs.Engines.{SameCapacities}
use Rattle.nfa_engines.specs.IterationLaws.{AreCalls, match_spans_of, EndsRise, IsKeptByLoop, IsKeptByNone, IsKeptByTwo}

-- the ends go up
pub ends-rise : (w : IterState) (calls : List (Option Span × IterState)) → AreCalls w calls
    → EndsRise w.last (match_spans_of calls)
ends-rise w [] are = tt
ends-rise w ((Some p, w') ∷ calls) are = grind (arith, ends-rise w' calls)
ends-rise w ((None, w') ∷ calls) are = grind (arith, ends-rise w' calls)

-- each match takes an end of those that are left
pub few-matches : (w : IterState) (calls : List (Option Span × IterState)) → AreCalls w calls
    → length (match_spans_of calls) ≤ ends_left w
few-matches w [] are = omega arith
few-matches w ((Some p, w') ∷ calls) are = grind (arith, few-matches w' calls)
few-matches w ((None, w') ∷ calls) are = grind (arith, few-matches w' calls)

-- before the first call there are as many as the span has bytes, and one more
pub first-ends : (x : Search) → ends_left (fresh x) ≤ span_len x + 1
first-ends x = omega arith

-- matches that are apart end one after another, so there are few
few-behind : (x : Search) (last : ℕ) (ms : List Found) → AreDisjoint x (Some last) ms → length ms ≤ x.end - last
few-behind x last [] disjoint = omega arith
few-behind x last (m ∷ ms) disjoint = grind (arith, few-behind x m.end ms)

-- as many as the span has bytes, and one more
pub few-disjoint : (x : Search) (ms : List Found) → AreDisjoint x None ms → length ms ≤ span_len x + 1
few-disjoint x [] disjoint = omega arith
few-disjoint x (m ∷ ms) disjoint = grind (arith, few-behind x m.end ms)

module _ {C : Type 0} (Keeps : C → C → Type 0) (none : IsKeptByNone Keeps) (two : IsKeptByTwo Keeps) where
  pub kept-by-loop : IsKeptByLoop Keeps
  kept-by-loop zero at each = none (at 0)
  kept-by-loop (suc n) at each =
      let next : n + 1 ≡ suc n = omega arith in
      subst (λ (m : ℕ). Keeps (at 0) (at m)) next
      (two (at 0) (at n) (at (n + 1)) (kept-by-loop n at (λ k less. each k (omega arith))) (each n (omega arith)))

pub sizes-none : IsKeptByNone SameCapacities
sizes-none c = search rules

pub sizes-two : IsKeptByTwo SameCapacities
sizes-two a b c p q = search rules

pub holds-none : (needed : ℕ) → IsKeptByNone (HoldsNoMore needed)
holds-none needed c = search rules

pub holds-two : (needed : ℕ) → IsKeptByTwo (HoldsNoMore needed)
holds-two needed a b c p q = search rules

-- this number of bytes has a bit for each pair
pub bits-reach : (pairs bytes : ℕ) → pairs < 2 ^ 64 → (pairs + 7) / 8 ≤ bytes → pairs ≤ rounded_bits bytes
bits-reach pairs bytes fits enough = omega arith

-- a span up to the longest length has no more pairs than there are bits
pub longest-fits : (bits states n : ℕ) → states ≤ bits → n ≤ bits / states - 1 → states * (n + 1) ≤ bits
longest-fits bits zero n room short = omega arith
longest-fits bits (suc s) n room short =
    let some : 1 ≤ bits / suc s = le-div 1 bits (suc s) (omega arith) (omega arith) in
    let less : suc s * (n + 1) ≤ suc s * (bits / suc s) = mul-le-mul_left (suc s) (omega arith) in
    let all : suc s * (bits / suc s) ≤ bits = mul-div-le bits (suc s) in
    omega arith

-- and a longer one has more
pub longer-exceeds : (bits states n : ℕ) → 0 < states → bits / states - 1 < n → bits < states * (n + 1)
longer-exceeds bits states n some long =
    let past : bits < states * (bits / states + 1) = lt-mul-div-succ bits some in
    let less : states * (bits / states + 1) ≤ states * (n + 1) = mul-le-mul_left states (omega arith) in
    omega arith

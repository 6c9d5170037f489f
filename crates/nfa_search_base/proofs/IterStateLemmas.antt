-- what a step of an iteration gives, as numbers
use Rattle.nfa_paths.proofs.Common.{◌≡◌, ℕ, ◌<◌, ◌≤◌, false, Option, None, Some, refl, arith, nat_tests, ForSome, Span}
use Rattle.nfa_search_base.specs.Common.{EndsBy, SameButStart, IterState, LiesIn, repeats, after, shifted, ComesAfter, LeavesFewer, ends_left}

-- the match does not end before it starts
abbrev pub IsOrdered : Option Span → Type 0
IsOrdered reply_span = ForSome reply_span (λ p. p.start ≤ p.end)

-- What a match, or none, makes of the iteration w. It is in the search's span, comes after the last one and leaves
-- fewer ends. Only the search's start moved.
pub record Moves (w : IterState) (p : Option Span) (w' : IterState) : Type 0 where
  pub inside : LiesIn w.at p
  pub rises : ComesAfter w p
  pub fewer : LeavesFewer w p w'
  pub same : SameButStart w.at w'.at

-- after a match or none, the search is the same but for its start
pub same_start-after : (w : IterState) (reply_span : Option Span) → SameButStart w.at (after w reply_span).at
same_start-after w None = record { haystack = refl; end = refl; anchored = refl; earliest = refl }
same_start-after w (Some p) = record { haystack = refl; end = refl; anchored = refl; earliest = refl }

-- and one on
pub same_start-shifted : (w : IterState) → SameButStart w.at (shifted w).at
same_start-shifted w = record { haystack = refl; end = refl; anchored = refl; earliest = refl }

-- and after a match one on
pub same_start-after_shifted : (w : IterState) (reply_span : Option Span)
    → SameButStart w.at (after (shifted w) reply_span).at
same_start-after_shifted w None = same_start-shifted w
same_start-after_shifted w (Some p) = record { haystack = refl; end = refl; anchored = refl; earliest = refl }

module _ (w : IterState) where
  -- a match that comes after the last one leaves fewer ends
  Moves-match : (p : Span) → LiesIn w.at (Some p) → p.start ≤ p.end → ComesAfter w (Some p)
      → Moves w (Some p) (after w (Some p))
  Moves-match p lies ordered rises = grind (arith, same_start-after)
    where
      of : (last : Option ℕ) → ComesAfter (record { at = w.at; last = last }) (Some p)
          → ends_left (after w (Some p)) < ends_left (record { at = w.at; last = last })
      of None comes = omega (arith, lies.0, lies.1)
      of (Some e) comes = let k = comes e refl in omega (arith, lies.0, lies.1, k.0, k.1)

  module _ (behind : EndsBy w.last w.at.start) where
    -- so does one that does not repeat the last one
    pub Moves-first : (p : Option Span) → LiesIn w.at p → IsOrdered p → repeats w p ≡ false → Moves w p (after w p)
    Moves-first None lies ordered new =
        record { inside = tt; rises = tt; fewer = omega arith; same = same_start-after w None }
    Moves-first (Some p) lies ordered new = Moves-match p lies (ordered p refl)
        (λ e is. after_last e w.at.start p.start p.end (behind e is) lies.0 (ordered p refl) (rw is at new))
      where
        after_last : (e n a b : ℕ) → e ≤ n → n ≤ a → a ≤ b
            → repeats (record { at = w.at; last = Some e }) (Some (record { start = a; end = b })) ≡ false
            → (e ≤ a) × (e < b)
        after_last e n a b h k l new = grind (arith, nat_tests)

    -- and one that is found one on; without a match, no more ends are left
    pub Moves-second : (p : Option Span) → LiesIn (shifted w).at p → IsOrdered p → Moves w p (after (shifted w) p)
    Moves-second None lies ordered =
        record { inside = tt; rises = tt; fewer = of w.last; same = same_start-shifted w }
      where
        of : (last : Option ℕ) → ends_left (shifted (record { at = w.at; last = last }))
            ≤ ends_left (record { at = w.at; last = last })
        of None = omega arith
        of (Some e) = omega arith
    Moves-second (Some p) lies ordered = Moves-match p (omega (arith, lies.0), lies.1) (ordered p refl)
        (λ e is.
        let k : e ≤ w.at.start = behind e is in
        let o : p.start ≤ p.end = ordered p refl in
        (omega (arith, lies.0), omega (arith, lies.0)))

-- The loop over positions, and the loop over starts, of a half match by steps.
use Rattle.nfa_paths.proofs.Common.{◌≡◌, ℕ, ◌+◌, ◌-◌, ◌<◌, ◌≤◌, inl, inr, Bool, true, false, List, length, ap, sym, ◌∙◌, subst, arith, Option, None, Some, is_some, cases_lt, IsBoundary, HalfFound, Search, is_anchored, MatchKind, Automaton, IsHalfAnswer, is_utf8_empty, raised, start_count, start_state, starts}
use Rattle.nfa_paths.proofs.StartLemmas.{raised-zero}
use Rattle.nfa_lazy_dfa.specs.Configurations.{Configuration, advance, closure_at, next_configuration, scanned, scan_half, StepsFindTheHalf, FindsSplit, IsRestartedHalf, IsWholeHalf}
use Rattle.nfa_lazy_dfa.proofs.PositionLemmas.{length-pairs_from}
use Rattle.nfa_lazy_dfa.proofs.SettledLemmas.{scanned-next}

-- a known start state is one start for each position
pub length-starts : (nfa : Automaton) (x : Search) → is_some (start_state nfa x.anchored) ≡ true
    → length (starts nfa x) ≡ start_count nfa x
length-starts nfa x some = grind (arith, length-pairs_from)

module _ (nfa : Automaton) (kind : MatchKind) (earliest : Bool) where
  -- one position more
  pub scanned-more : (x : Search) (at : ℕ) → x.start ≤ at → (c : Configuration)
      → c ≡ scanned nfa x kind earliest (at - x.start) → (here : List ℕ) → here ≡ closure_at nfa x at c
      → next_configuration nfa x kind earliest at here c ≡ scanned nfa x kind earliest (at + 1 - x.start)
  scanned-more x at low c is here closure_is =
      ap (λ (h : List ℕ). next_configuration nfa x kind earliest at h c) closure_is
      ∙ ap (advance nfa x kind earliest at) is ∙ sym (scanned-next nfa x kind earliest at low)

  -- a match that does not count
  pub split-of : (x : Search) (found : Option HalfFound) → found ≡ scan_half nfa x kind earliest
      → (IsWholeHalf x found → ⊥) → FindsSplit nfa kind earliest x
  split-of x None is split = absurd (split tt)
  split-of x (Some half) is split = record { half = half; is = sym is; splits = split }

  -- a scan that finds a match has a position
  pub split-inside : (x : Search) → FindsSplit nfa kind earliest x → x.start ≤ x.end
  split-inside x s = let is = s.is in grind arith

  -- searches that are one scan, and those that restart

  module _ (law : StepsFindTheHalf) (x : Search) (found : Option HalfFound) where
    pub half-plain : is_utf8_empty nfa ≡ false → found ≡ scan_half nfa x kind earliest
        → IsHalfAnswer nfa kind earliest x found
    half-plain flag is = (law nfa x kind earliest found).1 (rw flag (sym is))

    pub half-restarted : is_utf8_empty nfa ≡ true → is_anchored x.anchored ≡ false
        → IsRestartedHalf nfa kind earliest x found → IsHalfAnswer nfa kind earliest x found
    half-restarted flag anchored restarted = (law nfa x kind earliest found).1 (rw (flag, anchored) restarted)

  -- the starts so far each find a match that does not count
  pub record Skipping (x y : Search) : Type 0 where
    pub low : x.start ≤ y.start
    pub raises : y ≡ raised x (y.start - x.start)
    pub skipped : (i : ℕ) → i < y.start - x.start → FindsSplit nfa kind earliest (raised x i)

  pub Skipping-begin : (x : Search) → Skipping x x
  Skipping-begin x =
      let none : x.start - x.start ≡ 0 = omega arith in
      record {
        low = omega arith;
        raises = rw none (sym (raised-zero x));
        skipped = λ i less. absurd (omega arith);
      }

  pub Skipping-more : (x y z : Search) → Skipping x y → FindsSplit nfa kind earliest y
      → z ≡ record y { start = y.start + 1 } → Skipping x z
  Skipping-more x y z s split is =
      let start : z.start ≡ y.start + 1 = ap (λ (w : Search). w.start) is in
      let low : x.start ≤ y.start = s.low in
      let at : y.start + 1 ≡ x.start + (z.start - x.start) = omega arith in
      record {
        low = omega arith;
        raises = is ∙ ap (λ (w : Search). let v : Search = record w { start = y.start + 1 } in v) s.raises
            ∙ ap (λ (n : ℕ). let v : Search = record x { start = n } in v) at;
        skipped = λ i less.
            elim (cases_lt i (y.start - x.start)) [
              | inl before ↦ s.skipped i before
              | inr now ↦
                  let same : y.start - x.start ≡ i = omega arith in
                  subst (FindsSplit nfa kind earliest) (s.raises ∙ ap (raised x) same) split
            ];
      }

  pub Skipping-end : (x y : Search) (found : Option HalfFound) → Skipping x y
      → found ≡ scan_half nfa y kind earliest → IsWholeHalf y found → IsRestartedHalf nfa kind earliest x found
  Skipping-end x y found s is whole =
      let here : y.haystack ≡ x.haystack = ap (λ (w : Search). w.haystack) s.raises in
      record {
        restarts = y.start - x.start;
        skipped = s.skipped;
        is = rw (← s.raises) (sym is);
        whole = of found here whole;
      }
    where
      of : (o : Option HalfFound) → y.haystack ≡ x.haystack → IsWholeHalf y o → IsWholeHalf x o
      of None here whole = tt
      of (Some half) here whole = subst (λ (h : List ℕ). IsBoundary h half.offset) here whole

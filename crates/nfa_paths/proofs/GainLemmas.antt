-- What a set of patterns gains under All, position by position.
use Rattle.regex_search_core.specs.declared.search.MatchKind.TheVariants.{All}
use Rattle.nfa_paths.proofs.SetLemmas.{IsReached-at, ReachedBefore-start, ReachedBefore-step, IsReached-along, full-holds}
use Rattle.nfa_paths.proofs.SameScanLemmas.{at-along, least-along}
use Rattle.nfa_paths.proofs.ScanLemmas.{least_end}
use Rattle.nfa_paths.proofs.PathToLemmas.{IsLeastEnd-unique}
use Rattle.nfa_paths.proofs.ScanAnswerLemmas.{Scanned-matches, starts-from}
use Rattle.nfa_paths.proofs.Common.{◌≡◌, ℕ, ◌+◌, ◌<◌, ◌⊎◌, ◌↔◌, inl, inr, Bool, true, false, List, [], length, refl, ◌∙◌, subst, arith, rules, Some, size_of_set, Search, Automaton, Pair, IsLeastEnd, PathTo, NoPath, Passes, NoneBefore, WantedAt, Slots, ReachedBefore, EndsBefore, HoldsMatch, Scanned, IsFrontier, is_resting, space, edges, starts, HoldsPattern, pattern_at, IsPermitted, IsInsertable, IsPatternOf, IsOverlapResult}

-- The set before is `old`: wanted is what it has room for.
module _ (nfa : Automaton) (x : Search) (old : List Bool) (wants : Pair → Bool)
    (tells : (v : Pair) → (wants v ≡ true) ↔ IsInsertable nfa x (length old) v) where
  -- what the search goes over
  pub wanted-shape : Scanned (space nfa x) (is_resting nfa) wants
  wanted-shape = Scanned-matches nfa x wants (λ v w. ((tells v).0 w).permitted.matches)

  -- a permitted match counts if its pattern is below the capacity
  counts : {k : ℕ} → k < length old → (v : Pair) → IsPermitted nfa x v → pattern_at nfa v ≡ Some k → wants v ≡ true
  counts {k} less v may is = (tells v).1 (record { permitted = may; pattern = k; pattern_is = is; below = less })

  -- a pattern that is reached before e is one of an accepting path with a permitted end
  reached-sound : {e k : ℕ} → ReachedBefore (space nfa x) wants (pattern_at nfa) e k
      → IsPatternOf nfa x (IsPermitted nfa x) k
  reached-sound = IsReached-along (λ v w. ((tells v).0 w.wanted).permitted)

  -- The set of `All` at position e: it gained the patterns below its capacity that are reached before e.
  pub record GainsBefore (e : ℕ) (new : List Bool) : Type 0 where
    pub capacity : length new ≡ length old
    pub gained : (k : ℕ) → HoldsPattern new k
        ↔ (HoldsPattern old k ⊎ ((k < length old)
        × ReachedBefore (space nfa x) wants (pattern_at nfa) e k))

  pub GainsBefore-start : GainsBefore x.start old
  GainsBefore-start = record {
    capacity = refl;
    gained = λ k. (
      λ h. inl h,
      λ s. elim s [
        | inl h ↦ h
        | inr h ↦ absurd (ReachedBefore-start (space nfa x) (is_resting nfa) wants []
            wanted-shape (pattern_at nfa) k x.start (starts-from nfa x) h.1)
      ],
    );
  }

  -- if every path has ended, the set gained all
  pub GainsBefore-end : {e : ℕ} {new : List Bool} → GainsBefore e new → EndsBefore (space nfa x) wants e
      → IsOverlapResult nfa x All false old new
  GainsBefore-end {e} {new} g ends = record {
    capacity = g.capacity;
    keeps = λ k h. (g.gained k).1 (inl h);
    sound = λ k h. elim ((g.gained k).0 h) [ inl o ↦ inl o | inr w ↦ inr (w.0, reached-sound w.1) ];
    gains = record {
      gained = λ k. (
        λ h. elim ((g.gained k).0 h) [ inl o ↦ inl o | inr w ↦ inr (w.0, reached-sound w.1) ],
        λ s.
            elim s [
              | inl o ↦ (g.gained k).1 (inl o)
              | inr w ↦
                  (g.gained k).1
                  (inr (
                    w.0,
                    search (rules, counts),
                  ))
            ],
      );
    };
  }

  -- a full set gains nothing
  pub GainsBefore-full : {e : ℕ} {new : List Bool} → GainsBefore e new → size_of_set new ≡ length new
      → IsOverlapResult nfa x All false old new
  GainsBefore-full {e} {new} g full = grind (arith, full-holds)

  -- if no path to what is wanted ends before e and one ends there, e is the least end
  pub least-wanted : {e : ℕ} → NoneBefore (space nfa x) wants e → (m : Pair) (p : List Pair)
      → PathTo (edges nfa x) (starts nfa x) m p → WantedAt (IsInsertable nfa x (length old)) e m
      → IsLeastEnd (edges nfa x) (starts nfa x) (IsInsertable nfa x (length old)) e
  least-wanted {e} none m p w h =
      least-along (edges nfa x) (starts nfa x) (λ v. (tells v).0) (λ v. (tells v).1) e
      (least_end (space nfa x) (is_resting nfa) wants [] wanted-shape none m p w (at-along (λ v. (tells v).1) e m h))

  module _ {slots : Slots} {turns e : ℕ} {front : List (Pair × Slots)}
      (f : IsFrontier (space nfa x) (is_resting nfa) wants slots turns front e) where
    -- what is reached before the next position
    reached-step : (k : ℕ) → ReachedBefore (space nfa x) wants (pattern_at nfa) (e + 1) k
        ↔ (ReachedBefore (space nfa x) wants (pattern_at nfa) e k
        ⊎ HoldsMatch wants (pattern_at nfa) k front)
    reached-step k = search (rules, ReachedBefore-step, wanted-shape)

    pub GainsBefore-step : {mid new : List Bool} → GainsBefore e mid → length new ≡ length mid
        → ((k : ℕ) → HoldsPattern new k ↔ (HoldsPattern mid k
        ⊎ ((k < length mid) × HoldsMatch wants (pattern_at nfa) k front)))
        → GainsBefore (e + 1) new
    GainsBefore-step {mid} {new} g size put = record {
      capacity = size ∙ g.capacity;
      gained = λ k. (
        search (rules, reached-step),
        λ s.
            elim s [
              | inl o ↦ (put k).1 (inl ((g.gained k).1 (inl o)))
              | inr w ↦
                  elim ((reached-step k).0 w.1) [
                    | inl before ↦ (put k).1 (inl ((g.gained k).1 (inr (w.0, before))))
                    | inr here ↦ (put k).1 (inr (rw g.capacity w.0, here))
                  ]
            ],
      );
    }

    -- what is reached at e, by the front
    reached-here : (k : ℕ) → k < length old → IsPatternOf nfa x (WantedAt (IsPermitted nfa x) e) k
        ↔ HoldsMatch wants (pattern_at nfa) k front
    reached-here k less =
        let at = IsReached-at (space nfa x) (is_resting nfa) wants slots wanted-shape
        (pattern_at nfa) k f in grind arith

    -- the first front with a match of a pattern below the capacity is at the least end
    held-least : NoneBefore (space nfa x) wants e → (k : ℕ) → k < length old → HoldsMatch wants (pattern_at nfa) k front
        → IsLeastEnd (edges nfa x) (starts nfa x) (IsInsertable nfa x (length old)) e
    held-least none k less here =
        let r = (reached-here k less).1 here in
        least-wanted none r.end r.along r.path (record {
          wanted = record { permitted = r.wanted.wanted; pattern = k; pattern_is = r.pattern_is; below = less };
          at = r.wanted.at;
        })

    -- and the set gains what matches there
    pub gains-found : {new : List Bool} → NoneBefore (space nfa x) wants e → (k : ℕ) → k < length old
        → HoldsMatch wants (pattern_at nfa) k front
        → length new ≡ length old
        → ((j : ℕ) → HoldsPattern new j ↔ (HoldsPattern old j
        ⊎ ((j < length old) × HoldsMatch wants (pattern_at nfa) j front)))
        → IsOverlapResult nfa x All true old new
    gains-found {new} none k less here size put = record {
      capacity = size;
      keeps = λ j h. (put j).1 (inl h);
      sound = λ j h. elim ((put j).0 h) [
        | inl o ↦ inl o
        | inr w ↦ inr (w.0, IsReached-along (λ v p. p.wanted) ((reached-here j w.0).1 w.1))
      ];
      gains = record {
        gained = λ j. (
          λ h. elim ((put j).0 h) [
            | inl o ↦ inl o
            | inr w ↦ inr (w.0, (e, held-least none k less here, (reached-here j w.0).1 w.1))
          ],
          λ s.
              elim s [
                | inl o ↦ (put j).1 (inl o)
                | inr w ↦
                    let same : w.1.0 ≡ e = search (rules, IsLeastEnd-unique, held-least) in
                    (put j).1 (inr (
                      w.0,
                      (reached-here j w.0).0
                          (subst (λ d. IsPatternOf nfa x (WantedAt (IsPermitted nfa x) d) j) same w.1.2),
                    ))
              ],
        );
      };
    }

  -- if no path leads to what is wanted, nothing is gained
  pub gains-none : NoPath (edges nfa x) (starts nfa x) (Passes wants) → IsOverlapResult nfa x All true old old
  gains-none none = record {
    capacity = refl;
    keeps = λ k h. h;
    sound = λ k h. inl h;
    gains = record {
      gained = λ k. (
        λ h. inl h,
        λ s. elim s [
          | inl o ↦ o
          | inr w ↦ let i = w.1.1.is_end in absurd (none i.end i.along i.path ((tells i.end).1 i.wanted))
        ],
      );
    };
  }

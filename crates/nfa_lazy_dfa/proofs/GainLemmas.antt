-- What a set of patterns gains of all matches, position by position.
use Rattle.nfa_paths.proofs.Common.{◌≡◌, ℕ, ◌+◌, ◌-◌, ◌<◌, ◌≤◌, ◌⊎◌, ◌↔◌, inl, inr, Bool, true, false, List, length, refl, sym, ◌∙◌, subst, arith, cases_lt, size_of_set, Search, Automaton, In, IsLeastEnd, WantedAt, HoldsPattern, IsInsertable, IsOverlapResult, IsPatternOf, IsPermitted, IsPermittedEnd, edges, starts}
use Rattle.regex_search_core.specs.declared.search.MatchKind.TheVariants.{All}
use Rattle.nfa_paths.proofs.PathToLemmas.{IsLeastEnd-unique}
use Rattle.nfa_paths.proofs.SetLemmas.{full-holds}
use Rattle.nfa_lazy_dfa.proofs.PositionLemmas.{ends-there}
use Rattle.nfa_lazy_dfa.specs.Sets.{AddsHere, IsPartOfOverlap}
use Rattle.nfa_lazy_dfa.specs.Stances.{patterns_in}
use Rattle.nfa_lazy_dfa.proofs.ReachLemmas.{Quiet, ReachedSoFar, all_found, here_at, quiet-between, reached-begin, reached-end, reached-later, reached-now, reached-quiet, reached-sound, reached-step}

module _ (nfa : Automaton) (x : Search) where
  -- The set before a position: it gained the patterns below its capacity that are reached before. With `earliest` there
  -- is none of these.
  pub record Gaining (earliest : Bool) (old : List Bool) (at : ℕ) (new : List Bool) : Type 0 where
    pub capacity : length new ≡ length old
    pub gained : (k : ℕ) → HoldsPattern new k ↔ (HoldsPattern old k ⊎ ((k < length old) × ReachedSoFar nfa x at k))
    pub none : earliest ≡ true → (k : ℕ) → k < length old → ReachedSoFar nfa x at k → ⊥

  module _ (earliest : Bool) (old : List Bool) where
    pub Gaining-begin : Gaining earliest old x.start old
    Gaining-begin = record {
      capacity = refl;
      gained = λ k. (
        λ h. inl h,
        λ s. elim s [ inl h ↦ h | inr h ↦ absurd (reached-begin nfa x k h.1) ],
      );
      none = λ e k less r. reached-begin nfa x k r;
    }

    pub Gaining-skip : (from to : ℕ) (new : List Bool) → x.start ≤ from → from ≤ to
        → all_found nfa x from ≡ all_found nfa x to
        → Gaining earliest old from new → Gaining earliest old to new
    Gaining-skip from to new low order same g = record {
      capacity = g.capacity;
      gained = λ k. (
        λ h. elim ((g.gained k).0 h) [
          | inl o ↦ inl o
          | inr w ↦ inr (w.0, reached-later nfa x from to k order w.1)
        ],
        λ s. elim s [
          | inl o ↦ (g.gained k).1 (inl o)
          | inr w ↦ (g.gained k).1 (inr (w.0, back k w.1))
        ],
      );
      none = λ e k less r. g.none e k less (back k r);
    }
      where
        back : (k : ℕ) → ReachedSoFar nfa x to k → ReachedSoFar nfa x from k
        back k r =
            let all : from + (to - from) ≡ to = omega arith in
            reached-quiet nfa x from (to - from) low
            (subst (Quiet nfa x from) (sym all) (quiet-between nfa x from to low order same)) k
            (subst (λ (n : ℕ). ReachedSoFar nfa x n k) (sym all) r)

    module _ (at : ℕ) (low : x.start ≤ at) (mid new : List Bool) (met : Bool) (hits : List ℕ)
        (hits_are : hits ≡ patterns_in nfa (here_at nfa x false at)) (g : Gaining earliest old at mid)
        (adds : AddsHere nfa x at hits mid met new) where
      reached-adds : (k : ℕ) → ReachedSoFar nfa x (at + 1) k
          ↔ (ReachedSoFar nfa x at k ⊎ (IsPermittedEnd nfa x at × In k hits))
      reached-adds k = rw hits_are (reached-step nfa x false at k low)

      gained-adds : (k : ℕ) → HoldsPattern new k
          ↔ (HoldsPattern old k ⊎ ((k < length old) × ReachedSoFar nfa x (at + 1) k))
      gained-adds k = (
        λ h.
            elim ((adds.gained k).0 h) [
              | inl m ↦ elim ((g.gained k).0 m) [
                | inl o ↦ inl o
                | inr w ↦ inr (w.0, (reached-adds k).1 (inl w.1))
              ]
              | inr w ↦ inr (rw (← g.capacity) w.0, (reached-adds k).1 (inr w.1))
            ],
        λ s.
            elim s [
              | inl o ↦ (adds.gained k).1 (inl ((g.gained k).1 (inl o)))
              | inr w ↦ elim ((reached-adds k).0 w.1) [
                | inl before ↦ (adds.gained k).1 (inl ((g.gained k).1 (inr (w.0, before))))
                | inr here ↦ (adds.gained k).1 (inr (rw g.capacity w.0, here))
              ]
            ],
      )

      pub Gaining-next : (met ≡ true → earliest ≡ false) → Gaining earliest old (at + 1) new
      Gaining-next goes_on = record {
        capacity = adds.capacity ∙ g.capacity;
        gained = gained-adds;
        none = λ e k less r.
            elim ((reached-adds k).0 r) [
              | inl before ↦ g.none e k less before
              | inr here ↦ adds.none (missed met refl e) k (rw g.capacity less) here
            ];
      }
        where
          missed : (b : Bool) → met ≡ b → earliest ≡ true → met ≡ false
          missed true is e = let never : earliest ≡ false = goes_on is in absurd (cc (e, never))
          missed false is e = is

      -- the first match of an `earliest` search
      pub Gaining-found : earliest ≡ true → met ≡ true → IsOverlapResult nfa x All true old new
      Gaining-found e is_met = record {
        capacity = adds.capacity ∙ g.capacity;
        keeps = λ k h. (gained-adds k).1 (inl h);
        sound = λ k h. elim ((gained-adds k).0 h) [
          | inl o ↦ inl o
          | inr w ↦ inr (w.0, reached-sound nfa x (at + 1) k w.1)
        ];
        gains = record {
          gained = λ k. (
            λ h. elim ((gained-adds k).0 h) [
              | inl o ↦ inl o
              | inr w ↦ inr (w.0, (at, least, now k w.0 w.1))
            ],
            λ s. elim s [
              | inl o ↦ (gained-adds k).1 (inl o)
              | inr w ↦
                  let same : w.1.0 ≡ at = IsLeastEnd-unique _ _ _ w.1.0 at w.1.1 least in
                  (gained-adds k).1 (inr (
                    w.0,
                    later k
                        (subst (λ (p : ℕ). IsPatternOf nfa x (WantedAt (IsPermitted nfa x) p) k) same w.1.2),
                  ))
            ],
          );
        };
      }
        where
          now : (k : ℕ) → k < length old → ReachedSoFar nfa x (at + 1) k
              → IsPatternOf nfa x (WantedAt (IsPermitted nfa x) at) k
          now k less r =
              elim ((reached-step nfa x false at k low).0 r) [
                | inl before ↦ absurd (g.none e k less before)
                | inr here ↦ (reached-now nfa x false at k low).1 here
              ]

          later : (k : ℕ) → IsPatternOf nfa x (WantedAt (IsPermitted nfa x) at) k → ReachedSoFar nfa x (at + 1) k
          later k r = (reached-step nfa x false at k low).1 (inr ((reached-now nfa x false at k low).0 r))

          least : IsLeastEnd (edges nfa x) (starts nfa x) (IsInsertable nfa x (length old)) at
          least =
              let s = adds.some is_met in
              let below : s.0 < length old = rw (← g.capacity) s.1 in
              let r = (reached-now nfa x false at s.0 low).1 (rw hits_are at s.2) in
              record {
                is_end = record {
                  end = r.end;
                  along = r.along;
                  path = r.path;
                  wanted = record {
                    permitted = r.wanted.wanted;
                    pattern = s.0;
                    pattern_is = r.pattern_is;
                    below = below;
                  };
                  at = r.wanted.at;
                };
                least = λ m p path w.
                    elim (cases_lt m.1 at) [
                      | inl before ↦ absurd (g.none e w.pattern w.below (record {
                        end = m;
                        along = p;
                        path = path;
                        wanted = record { wanted = w.permitted; before = before };
                        pattern_is = w.pattern_is;
                      }))
                      | inr more ↦ more
                    ];
              }

    -- what a search that stopped left
    pub Gaining-part : (at : ℕ) (new : List Bool) → Gaining earliest old at new → IsPartOfOverlap nfa x earliest old new
    Gaining-part at new g = record {
      capacity = g.capacity;
      keeps = λ k h. (g.gained k).1 (inl h);
      sound = λ k h. elim ((g.gained k).0 h) [ inl o ↦ inl o | inr w ↦ inr (w.0, reached-sound nfa x at k w.1) ];
      none = λ e k h. elim ((g.gained k).0 h) [ inl o ↦ o | inr w ↦ absurd (g.none e k w.0 w.1) ];
    }

  -- a set that gained all patterns that are reached
  Gaining-all : (old : List Bool) (at : ℕ) (new : List Bool) → Gaining false old at new
      → ((k : ℕ) → k < length old → IsPatternOf nfa x (IsPermitted nfa x) k → HoldsPattern new k)
      → IsOverlapResult nfa x All false old new
  Gaining-all old at new g all = record {
    capacity = g.capacity;
    keeps = λ k h. (g.gained k).1 (inl h);
    sound = λ k h. elim ((g.gained k).0 h) [ inl o ↦ inl o | inr w ↦ inr (w.0, reached-sound nfa x at k w.1) ];
    gains = record {
      gained = λ k. (
        λ h. elim ((g.gained k).0 h) [ inl o ↦ inl o | inr w ↦ inr (w.0, reached-sound nfa x at k w.1) ],
        λ s. elim s [ inl o ↦ (g.gained k).1 (inl o) | inr w ↦ all k w.0 w.1 ],
      );
    };
  }

  -- at the end of the span
  pub Gaining-end : (earliest : Bool) (old : List Bool) (at : ℕ) (new : List Bool) → x.end < at
      → Gaining earliest old at new → IsOverlapResult nfa x All earliest old new
  Gaining-end false old at new past g =
      Gaining-all old at new g (λ k less r. (g.gained k).1 (inr (less, reached-end nfa x at k past r)))
  Gaining-end true old at new past g = record {
    capacity = g.capacity;
    keeps = λ k h. (g.gained k).1 (inl h);
    sound = λ k h. elim ((g.gained k).0 h) [ inl o ↦ inl o | inr w ↦ inr (w.0, reached-sound nfa x at k w.1) ];
    gains = record {
      gained = λ k. (
        λ h. elim ((g.gained k).0 h) [ inl o ↦ inl o | inr w ↦ absurd (g.none refl k w.0 w.1) ],
        λ s. elim s [
          | inl o ↦ (g.gained k).1 (inl o)
          | inr w ↦
              let i = w.1.1.is_end in
              absurd (g.none refl i.wanted.pattern i.wanted.below (record {
                end = i.end;
                along = i.along;
                path = i.path;
                wanted = record {
                  wanted = i.wanted.permitted;
                  before = ends-there nfa x at past i.end i.along i.path i.wanted.permitted.matches;
                };
                pattern_is = i.wanted.pattern_is;
              }))
        ],
      );
    };
  }

  -- a full set gains no more
  pub Gaining-full : (old : List Bool) (at : ℕ) (new : List Bool) → size_of_set new ≡ length new
      → Gaining false old at new → IsOverlapResult nfa x All false old new
  Gaining-full old at new full g =
      Gaining-all old at new g (λ k less r. full-holds new full k (rw g.capacity less))

  -- a match that ends the scan
  pub Gaining-over : (earliest : Bool) (old : List Bool) (at : ℕ) → x.start ≤ at → (mid new : List Bool) (hits : List ℕ)
      → hits ≡ patterns_in nfa (here_at nfa x false at) → Gaining earliest old at mid
      → (met : Bool) → AddsHere nfa x at hits mid met new → met ≡ true
      → (earliest ≡ true) ⊎ (size_of_set new ≡ length new) → IsOverlapResult nfa x All earliest old new
  Gaining-over true old at low mid new hits are g met adds is_met over =
      Gaining-found true old at low mid new met hits are g adds refl is_met
  Gaining-over false old at low mid new hits are g met adds is_met (inl never) = absurd (cc never)
  Gaining-over false old at low mid new hits are g met adds is_met (inr full) =
      Gaining-full old (at + 1) new full (Gaining-next false old at low mid new met hits are g adds (λ e. refl))

  -- the last position
  pub Gaining-last : (earliest : Bool) (old : List Bool) (at : ℕ) → x.start ≤ at → x.end < at + 1
      → (mid new : List Bool) (hits : List ℕ)
      → hits ≡ patterns_in nfa (here_at nfa x false at) → Gaining earliest old at mid
      → (met : Bool) → AddsHere nfa x at hits mid met new → IsOverlapResult nfa x All earliest old new
  Gaining-last true old at low past mid new hits are g true adds =
      Gaining-found true old at low mid new true hits are g adds refl refl
  Gaining-last earliest old at low past mid new hits are g false adds =
      Gaining-end earliest old (at + 1) new past
      (Gaining-next earliest old at low mid new false hits are g adds (λ e. absurd (cc e)))
  Gaining-last false old at low past mid new hits are g met adds =
      Gaining-end false old (at + 1) new past
      (Gaining-next false old at low mid new met hits are g adds (λ e. refl))

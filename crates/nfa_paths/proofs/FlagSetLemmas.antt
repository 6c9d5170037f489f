-- Nor does what an overlapping search makes of a set read the flag `earliest` of its input.
use Rattle.regex_search_core.specs.declared.search.MatchKind.TheVariants.{All}
use Rattle.nfa_paths.proofs.SameScanLemmas.{at-along, before-along, earliest-along, first-along, least-along}
use Rattle.nfa_paths.proofs.EarliestLemmas.{asked}
use Rattle.nfa_paths.proofs.SetLemmas.{IsReached-along}
use Rattle.nfa_paths.proofs.Common.{ℕ, inl, inr, Bool, true, false, List, length, arith, rules, Option, None, Some, Search, MatchKind, Automaton, Pair, IsPermitted, IsInsertable, IsPatternOf, IsSelectedByAll, IsSelectedPath, HoldsPath, Gains, IsFirstBefore, IsOverlapResult, edges, edges_of, starts, LeftmostFirst}

module _ (nfa : Automaton) where
  module _ (x : Search) (flag : Bool) where
    permitted-asked : (v : Pair) → IsPermitted nfa (asked x flag) v → IsPermitted nfa x v
    permitted-asked v h = record { matches = h.matches; ends = h.ends }

    held-asked : (capacity : ℕ) (v : Pair) → IsInsertable nfa (asked x flag) capacity v → IsInsertable nfa x capacity v
    held-asked capacity v h = grind arith

    -- the same patterns are reached
    pattern-asked : (P Q : Pair → Type 0) → ((v : Pair) → P v → Q v) → (k : ℕ) → IsPatternOf nfa (asked x flag) P k
        → IsPatternOf nfa x Q k
    unfolding edges_of
    pattern-asked P Q to k h = IsReached-along to h

    pub permitted-pattern : (k : ℕ) → IsPatternOf nfa (asked x flag) (IsPermitted nfa (asked x flag)) k
        → IsPatternOf nfa x (IsPermitted nfa x) k
    permitted-pattern k h = pattern-asked _ _ permitted-asked k h

  module _ (x : Search) (flag : Bool) where
    held-unasked : (capacity : ℕ) (v : Pair) → IsInsertable nfa x capacity v
        → IsInsertable nfa (asked x flag) capacity v
    held-unasked = held-asked (asked x flag) x.earliest

    -- what is meant by All
    meant-asked : (earliest : Bool) (capacity k : ℕ) → IsSelectedByAll nfa (asked x flag) earliest capacity k
        → IsSelectedByAll nfa x earliest capacity k
    unfolding edges_of
    meant-asked false capacity k h = permitted-pattern x flag k h
    meant-asked true capacity k h = (
      h.0,
      least-along (edges nfa x) (starts nfa x) (held-asked x flag capacity) (held-unasked capacity) h.0 h.1,
      pattern-asked x flag _ _ (at-along (permitted-asked x flag) h.0) k h.2,
    )

    -- the path that is meant by LeftmostFirst
    path-asked : (earliest : Bool) (capacity : ℕ) (path : Option (List Pair))
        → IsSelectedPath nfa (asked x flag) earliest capacity path → IsSelectedPath nfa x earliest capacity path
    unfolding edges_of
    path-asked false capacity path h =
        first-along (edges nfa x) (starts nfa x) (held-asked x flag capacity) (held-unasked capacity) path h
    path-asked true capacity path h =
        earliest-along (edges nfa x) (starts nfa x) (held-asked x flag capacity) (held-unasked capacity) path h

    met-asked : (capacity k : ℕ) → IsFirstBefore nfa (asked x flag) capacity k → IsFirstBefore nfa x capacity k
    unfolding edges_of
    met-asked capacity k h = record {
      limit = h.limit;
      along = h.along;
      first = first-along (edges nfa x) (starts nfa x) (before-along (held-asked x flag capacity) h.limit)
          (before-along (held-unasked capacity) h.limit) (Some h.along) h.first;
      pattern_is = h.pattern_is;
    }

  module _ (x : Search) (flag : Bool) where
    -- what the empty set becomes
    holds-asked : (earliest : Bool) (path : Option (List Pair)) (set : List Bool)
        → HoldsPath nfa (asked x flag) earliest path set → HoldsPath nfa x earliest path set
    holds-asked false None set h = h
    holds-asked true None set h = h
    holds-asked false (Some p) set h = record {
      end = h.end;
      ends = h.ends;
      pattern = h.pattern;
      pattern_is = h.pattern_is;
      holds = h.holds;
      others = grind (arith, pattern-asked, before-along, permitted-asked);
      exact = λ k. (
        λ held. met-asked x flag (length set) k ((h.exact k).0 held),
        λ met. (h.exact k).1 (met-asked (asked x flag) x.earliest (length set) k met),
      );
    }
    holds-asked true (Some p) set h = grind arith

    gains-asked : (kind : MatchKind) (earliest : Bool) (old new : List Bool)
        → Gains nfa (asked x flag) kind earliest old new → Gains nfa x kind earliest old new
    gains-asked All earliest old new h = record {
      gained = λ k. (
        grind (arith, meant-asked),
        λ s. (h.gained k).1 (elim s [
          | inl had ↦ inl had
          | inr meant ↦ inr (meant.0, meant-asked (asked x flag) x.earliest earliest (length old) k meant.1)
        ]),
      );
    }
    gains-asked LeftmostFirst earliest old new h = grind (arith, holds-asked, path-asked)

    -- what a search makes of a set
    pub set-asked : (kind : MatchKind) (earliest : Bool) (old new : List Bool)
        → IsOverlapResult nfa (asked x flag) kind earliest old new → IsOverlapResult nfa x kind earliest old new
    set-asked kind earliest old new h = search (rules, gains-asked, pattern-asked)

-- Two NFAs with the same edges, starts and matches have the same answers, and make the same of a set of patterns.
use Rattle.regex_search_core.specs.declared.search.MatchKind.TheVariants.{All}
use Rattle.nfa_paths.proofs.PathToLemmas.{IsFirstTo-along}
use Rattle.nfa_paths.proofs.SetLemmas.{IsReached-along}
use Rattle.nfa_paths.proofs.Common.{◌≡◌, ◌∙◌, ℕ, Bool, List, ap, length, refl, subst, sym, Option, is_some, option_and_then, option_map, Found, HalfFound, slot_count, Search, match_of, MatchKind, Automaton, Pair, pattern_at, edges, is_utf8_empty, last_of, path_half, path_pattern, slot_row, starts, IsAnswer, IsBoolAnswer, IsFindAnswer, IsHalfAnswer, inl, inr, true, false, None, Some, WantedAt, IsEnd, IsFirstTo, IsLeastEnd, NoPath, IsReached, WantedBefore, Gains, HoldsPath, IsFirstBefore, IsInsertable, IsOverlapResult, IsPatternOf, IsPermitted, IsSelectedByAll, IsSelectedPath, LeftmostFirst}
use Rattle.nfa_paths.proofs.SameScanLemmas.{found-carried, scan-alike, search-carried, ScansCarry}

-- the two NFAs differ only in what their paths write
pub record HaveSameWays (a b : Automaton) : Type 0 where
  pub edges_are : (x : Search) → edges a x ≡ edges b x
  pub starts_are : (x : Search) → starts a x ≡ starts b x
  pub patterns_are : pattern_at a ≡ pattern_at b
  pub utf8_is : is_utf8_empty a ≡ is_utf8_empty b

pub back : (a b : Automaton) → HaveSameWays a b → HaveSameWays b a
back a b w = record {
  edges_are = λ x. sym (w.edges_are x);
  starts_are = λ x. sym (w.starts_are x);
  patterns_are = sym w.patterns_are;
  utf8_is = sym w.utf8_is;
}

module _ (a b : Automaton) (w : HaveSameWays a b) where
  -- what is said of edges and starts
  pub carried : (x : Search) (F : (Pair → List Pair) → List Pair → Type 0) → F (edges a x) (starts a x)
      → F (edges b x) (starts b x)
  carried x F h =
      subst (λ ss. F (edges b x) ss) (w.starts_are x) (subst (λ es. F es (starts a x)) (w.edges_are x) h)

  pub pattern-same : (r : Option (List Pair))
      → option_and_then (path_pattern a) r ≡ option_and_then (path_pattern b) r
  pattern-same r =
      ap (λ (q : Pair → Option ℕ). option_and_then (λ (p : List Pair). option_and_then q (last_of p)) r) w.patterns_are

  pub half-same : (r : Option (List Pair)) → option_and_then (path_half a) r ≡ option_and_then (path_half b) r
  half-same r =
      ap (λ (q : Pair → Option ℕ). option_and_then (λ (p : List Pair). option_and_then
      (λ v. option_map (λ k. (let h : HalfFound = record { pattern = k; offset = v.1 } in h)) (q v)) (last_of p)) r)
      w.patterns_are

  module _ (kind : MatchKind) (earliest : Bool) where
    -- searches explore the same
    carries : (x : Search) → ScansCarry a b x x.anchored x.earliest kind earliest
    carries x = record {
      utf8 = w.utf8_is;
      bound = refl;
      scans = λ s. scan-alike a b (record x { start = s }) (record x { start = s }) (λ i. record {
        edges = w.edges_are (record x { start = s }) i;
        starts = w.starts_are (record x { start = s }) i;
        is_match = λ v. is_some (w.patterns_are i v);
      }) kind earliest;
    }

    pub bool-answer : (x : Search) (found : Bool) → IsBoolAnswer a kind earliest x found
        → IsBoolAnswer b kind earliest x found
    bool-answer x = found-carried (carries x)

    pub half-answer : (x : Search) (half : Option HalfFound) → IsHalfAnswer a kind earliest x half
        → IsHalfAnswer b kind earliest x half
    half-answer x half h = record {
      restarts = h.restarts;
      path = h.path;
      answers = search-carried (carries x) h.restarts h.path h.answers;
      found_is = h.found_is ∙ half-same h.path;
    }

    -- if the paths also write the same slots
    pub slots-answer : (x : Search) (pattern : Option ℕ) (slots : List (Option ℕ))
        → ((r : Option (List Pair)) → slot_row a (length slots) r ≡ slot_row b (length slots) r)
        → IsAnswer a kind earliest x pattern slots → IsAnswer b kind earliest x pattern slots
    slots-answer x pattern slots same h = record {
      restarts = h.restarts;
      path = h.path;
      answers = search-carried (carries x) h.restarts h.path h.answers;
      pattern_is = h.pattern_is ∙ pattern-same h.path;
      slots_are = h.slots_are ∙ same h.path;
    }

    -- if the paths give the same matches
    pub find-answer : (x : Search) (found : Option Found)
        → ((r : Option (List Pair)) → match_of (option_and_then (path_pattern a) r) (slot_row a (slot_count a.groups) r)
        ≡ match_of (option_and_then (path_pattern b) r) (slot_row b (slot_count b.groups) r))
        → IsFindAnswer a kind earliest x found → IsFindAnswer b kind earliest x found
    find-answer x found same h = record {
      restarts = h.restarts;
      path = h.path;
      answers = search-carried (carries x) h.restarts h.path h.answers;
      found_is = h.found_is ∙ same h.path;
    }

module _ (a b : Automaton) (w : HaveSameWays a b) (x : Search) where
  permitted : (v : Pair) → IsPermitted a x v → IsPermitted b x v
  permitted v h = record {
    matches = subst (λ (q : Pair → Option ℕ). is_some (q v) ≡ true) w.patterns_are h.matches;
    ends = λ utf8. h.ends (w.utf8_is ∙ utf8);
  }

  insertable : (capacity : ℕ) (v : Pair) → IsInsertable a x capacity v → IsInsertable b x capacity v
  insertable capacity v h = record {
    permitted = permitted v h.permitted;
    pattern = h.pattern;
    pattern_is = subst (λ (q : Pair → Option ℕ). q v ≡ Some h.pattern) w.patterns_are h.pattern_is;
    below = h.below;
  }

  -- the same patterns are reached
  reached : (P Q : Pair → Type 0) → ((v : Pair) → P v → Q v) → (k : ℕ) → IsPatternOf a x P k → IsPatternOf b x Q k
  reached P Q to k h =
      subst (λ (q : Pair → Option ℕ). IsReached (edges b x) (starts b x) Q q k) w.patterns_are
      (carried a b w x (λ es ss. IsReached es ss Q (pattern_at a) k) (IsReached-along to h))

  ends : (P Q : Pair → Type 0) → ((v : Pair) → P v → Q v) → (e : ℕ) → IsEnd (edges a x) (starts a x) P e
      → IsEnd (edges a x) (starts a x) Q e
  ends P Q to e h = record { end = h.end; along = h.along; path = h.path; wanted = to h.end h.wanted; at = h.at }

  -- the same ends are the least
  least : (P Q : Pair → Type 0) → ((v : Pair) → P v → Q v) → ((v : Pair) → Q v → P v) → (e : ℕ)
      → IsLeastEnd (edges a x) (starts a x) P e → IsLeastEnd (edges b x) (starts b x) Q e
  least P Q to from e h =
      carried a b w x (λ es ss. IsLeastEnd es ss Q e) (record {
        is_end = ends P Q to e h.is_end;
        least = λ m p along q. h.least m p along (from m q);
      })

  -- the same paths come first
  first : (P Q : Pair → Type 0) → ((v : Pair) → P v → Q v) → ((v : Pair) → Q v → P v) → (p : List Pair)
      → IsFirstTo (edges a x) (starts a x) P p → IsFirstTo (edges b x) (starts b x) Q p
  first P Q to from p h =
      carried a b w x (λ es ss. IsFirstTo es ss Q p) (IsFirstTo-along (edges a x) (starts a x) P Q to from h)

  none : (P Q : Pair → Type 0) → ((v : Pair) → Q v → P v) → NoPath (edges a x) (starts a x) P
      → NoPath (edges b x) (starts b x) Q
  none P Q from h = carried a b w x (λ es ss. NoPath es ss Q) (λ m p along q. h m p along (from m q))

at-end : (P Q : Pair → Type 0) → ((v : Pair) → P v → Q v) → (e : ℕ) (v : Pair) → WantedAt P e v → WantedAt Q e v
at-end P Q to e v h = record { wanted = to v h.wanted; at = h.at }

before-end : (P Q : Pair → Type 0) → ((v : Pair) → P v → Q v) → (e : ℕ) (v : Pair) → WantedBefore P e v
    → WantedBefore Q e v
before-end P Q to e v h = record { wanted = to v h.wanted; before = h.before }

module _ (a b : Automaton) (w : HaveSameWays a b) (x : Search) where
  -- what is meant by All
  selected : (earliest : Bool) (capacity k : ℕ) → IsSelectedByAll a x earliest capacity k
      → IsSelectedByAll b x earliest capacity k
  selected false capacity k h = reached a b w x (IsPermitted a x) (IsPermitted b x) (permitted a b w x) k h
  selected true capacity k h = (
    h.0,
    least a b w x (IsInsertable a x capacity) (IsInsertable b x capacity) (insertable a b w x capacity)
        (insertable b a (back a b w) x capacity) h.0 h.1,
    reached a b w x (WantedAt (IsPermitted a x) h.0) (WantedAt (IsPermitted b x) h.0)
        (at-end (IsPermitted a x) (IsPermitted b x) (permitted a b w x) h.0) k h.2,
  )

  -- the path that is meant by LeftmostFirst
  meant : (earliest : Bool) (capacity : ℕ) (path : Option (List Pair)) → IsSelectedPath a x earliest capacity path
      → IsSelectedPath b x earliest capacity path
  meant false capacity None h =
      none a b w x (IsInsertable a x capacity) (IsInsertable b x capacity) (insertable b a (back a b w) x capacity) h
  meant false capacity (Some p) h =
      first a b w x (IsInsertable a x capacity) (IsInsertable b x capacity) (insertable a b w x capacity)
      (insertable b a (back a b w) x capacity) p h
  meant true capacity None h =
      none a b w x (IsInsertable a x capacity) (IsInsertable b x capacity) (insertable b a (back a b w) x capacity) h
  meant true capacity (Some p) h = (
    h.0,
    least a b w x (IsInsertable a x capacity) (IsInsertable b x capacity) (insertable a b w x capacity)
        (insertable b a (back a b w) x capacity) h.0 h.1,
    first a b w x (WantedAt (IsInsertable a x capacity) h.0) (WantedAt (IsInsertable b x capacity) h.0)
        (at-end (IsInsertable a x capacity) (IsInsertable b x capacity) (insertable a b w x capacity) h.0)
        (at-end (IsInsertable b x capacity) (IsInsertable a x capacity) (insertable b a (back a b w) x capacity) h.0)
        p h.2,
  )

  first-before : (capacity k : ℕ) → IsFirstBefore a x capacity k → IsFirstBefore b x capacity k
  first-before capacity k h = record {
    limit = h.limit;
    along = h.along;
    first = first a b w x (WantedBefore (IsInsertable a x capacity) h.limit)
        (WantedBefore (IsInsertable b x capacity) h.limit)
        (before-end (IsInsertable a x capacity) (IsInsertable b x capacity) (insertable a b w x capacity) h.limit)
        (before-end (IsInsertable b x capacity) (IsInsertable a x capacity) (insertable b a (back a b w) x capacity)
        h.limit) h.along h.first;
    pattern_is = subst (λ (o : Option ℕ). o ≡ Some k) (pattern-same a b w (Some h.along)) h.pattern_is;
  }

module _ (a b : Automaton) (w : HaveSameWays a b) (x : Search) where
  -- what the empty set becomes
  holds : (earliest : Bool) (path : Option (List Pair)) (set : List Bool) → HoldsPath a x earliest path set
      → HoldsPath b x earliest path set
  holds false None set h = h
  holds true None set h = h
  holds false (Some p) set h = record {
    end = h.end;
    ends = h.ends;
    pattern = h.pattern;
    pattern_is = subst (λ (q : Pair → Option ℕ). q h.end ≡ Some h.pattern) w.patterns_are h.pattern_is;
    holds = h.holds;
    others = λ k held. elim (h.others k held) [
      | inl same ↦ inl same
      | inr earlier ↦
          inr (reached a b w x (WantedBefore (IsPermitted a x) h.end.1) (WantedBefore (IsPermitted b x) h.end.1)
          (before-end (IsPermitted a x) (IsPermitted b x) (permitted a b w x) h.end.1) k earlier)
    ];
    exact = λ k. (
      λ held. first-before a b w x (length set) k ((h.exact k).0 held),
      λ met. (h.exact k).1 (first-before b a (back a b w) x (length set) k met),
    );
  }
  holds true (Some p) set h = record {
    end = h.end;
    ends = h.ends;
    pattern = h.pattern;
    pattern_is = subst (λ (q : Pair → Option ℕ). q h.end ≡ Some h.pattern) w.patterns_are h.pattern_is;
    holds = h.holds;
  }

  gains : (kind : MatchKind) (earliest : Bool) (old new : List Bool) → Gains a x kind earliest old new
      → Gains b x kind earliest old new
  gains All earliest old new h = record {
    gained = λ k. (
      λ held. elim ((h.gained k).0 held) [
        | inl had ↦ inl had
        | inr got ↦ inr (got.0, selected a b w x earliest (length old) k got.1)
      ],
      λ s. (h.gained k).1 (elim s [
        | inl had ↦ inl had
        | inr got ↦ inr (got.0, selected b a (back a b w) x earliest (length old) k got.1)
      ]),
    );
  }
  gains LeftmostFirst earliest old new h = record {
    full = h.full;
    empty = λ none. let e = h.empty none in record {
      path = e.path;
      meant = meant a b w x earliest (length old) e.path e.meant;
      holds = holds earliest e.path new e.holds;
    };
  }

  pub set-same : (kind : MatchKind) (earliest : Bool) (old new : List Bool) → IsOverlapResult a x kind earliest old new
      → IsOverlapResult b x kind earliest old new
  set-same kind earliest old new h = record {
    capacity = h.capacity;
    keeps = h.keeps;
    sound = λ k held. elim (h.sound k held) [
      | inl had ↦ inl had
      | inr got ↦
          inr (got.0, reached a b w x (IsPermitted a x) (IsPermitted b x) (permitted a b w x) k got.1)
    ];
    gains = gains kind earliest old new h.gains;
  }

-- What is put into a set of patterns at a position.
use Rattle.std.proofs.Math.Bool.{and-true, or-false, or_assoc}
use Rattle.nfa_paths.proofs.MemberLemmas.{In-append, In-append_left, In-append_right, same_test}
use Rattle.nfa_paths.proofs.SetLemmas.{holds-with, length-with}
use Rattle.nfa_pikevm_scan.proofs.FrontierLemmas.{Formed-resting}
use Rattle.nfa_pikevm_scan.proofs.SinkLemmas.{StatesGive-if, Takes-cut, first-none}
use Rattle.nfa_pikevm_scan.proofs.Common.{AddsAllPatterns, AddsFirstPattern, AddsPatterns, All, Automaton, Bool, ClosuresGive, Frontier, Hit, HoldsMatch, In, IsBoundary, IsInsertable, IsPermittedEnd, List, Moment, NextsOverlappingGive, NoMatch, None, Pair, PatternID, PatternSink, PatternSinkTakes, Search, Slots, Some, Takes, [], ap, arith, counts, ends, ext_get_or, false, first_match, get_or, inl, inr, is_match, is_utf8_empty, length, nat_lt, nat_tests, node_at, none, not, number_of, pattern_at, pattern_of, permits, plain, refl, sym, taken, true, wants, with_pattern, ℕ, ◌&&◌, ◌++◌, ◌<◌, ◌||◌, ◌↔◌, ◌∙◌, ◌∷◌, ◌≡◌, ◌≤◌, ◌⊎◌}

module _ (nfa : Automaton) (x : Search) where
  permits-tells : (at : ℕ) → (permits nfa x at ≡ true) ↔ IsPermittedEnd nfa x at
  unfolding permits
  permits-tells at = grind (arith, nat_tests)

  -- the test that the program makes
  pub permits-is : (at : ℕ) (b : Bool) → (b ≡ true → IsPermittedEnd nfa x at) → (b ≡ false → is_utf8_empty nfa ≡ true)
      → (b ≡ false → ¬ (IsBoundary x.haystack at)) → b ≡ permits nfa x at
  permits-is at b counts splits inside = grind (arith, permits-tells)

  module _ (n : ℕ) where
    -- the test of a pair
    pub wants-tells : (v : Pair) → (wants nfa x n v ≡ true) ↔ IsInsertable nfa x n v
    unfolding wants
    wants-tells v = grind (arith, nat_tests, permits-tells)

    pub wants-match : (v : Pair) → wants nfa x n v ≡ true → is_match nfa v ≡ true
    wants-match v t = ((wants-tells v).0 t).permitted.matches

    -- the test of a match of this pattern
    pub wants-here : (s at : ℕ) (k : ℕ) → pattern_of (node_at nfa s) ≡ Some k
        → wants nfa x n (s, at) ≡ (permits nfa x at && nat_lt k n)
    unfolding wants
    wants-here s at k is = rw is refl

-- what is put into the set

-- with no match that counts there is no wanted pair, and the set stays
pub AddsFirst-none : (nfa : Automaton) (first : Hit) (set new : List Bool) → AddsFirstPattern nfa first set false new
    → (first ≡ None) × (new ≡ set)
AddsFirst-none nfa first set new h = grind arith

-- with one, the set gains the pattern of the first wanted pair
pub AddsFirst-some : (nfa : Automaton) (first : Hit) (set new : List Bool) → AddsFirstPattern nfa first set true new
    → (a : Pair × Slots) × (first ≡ Some a) × ((k : ℕ) × (pattern_at nfa a.0 ≡ Some k) × (new ≡ with_pattern set k))
AddsFirst-some nfa None set new h = let never : true ≡ false = h.0 in cc
AddsFirst-some nfa (Some a) set new h = (a, refl, h.1)

module _ (nfa : Automaton) (wanted : Pair → Bool) where
  -- no wanted pair: the set stays
  pub AddsPatterns-none : (past : Bool) (front : Frontier) (set : List Bool) → NoMatch wanted front
      → AddsPatterns nfa past wanted front set false set
  AddsPatterns-none true front set off = grind arith
  AddsPatterns-none false front set off = rw (first-none wanted front off) (refl, refl)

  -- one wanted pair, of a pattern that the set has room for
  pub AddsPatterns-one : (past : Bool) (a : Pair × Slots) (k : ℕ) (set : List Bool) → wanted a.0 ≡ true
      → pattern_at nfa a.0 ≡ Some k → k < length set
      → AddsPatterns nfa past wanted (a ∷ []) set true (with_pattern set k)
  AddsPatterns-one true a k set t is room = record {
    capacity = length-with set k;
    gained = λ j. grind (arith, holds-with, here j);
    some = λ e. (k, room, (here k).1 refl);
    none = λ never. cc;
  }
    where
      here : (j : ℕ) → HoldsMatch wanted (pattern_at nfa) j (a ∷ []) ↔ (k ≡ j)
      here j = (λ h. grind arith, λ e. record { item = a; among = inl refl; matches = t; pattern_is = cc })
  AddsPatterns-one false a k set t is room = rw t (refl, (k, is, refl))

  -- if none is wanted in the first front, the first of both is that of the second
  first-append : (f g : Frontier) → first_match wanted f ≡ None → first_match wanted (f ++ g) ≡ first_match wanted g
  first-append [] g lacks = refl
  first-append (a ∷ f) g lacks = grind (arith, first-append f g)

  -- with no match that counts the set stays
  pub AddsAll-none : {front : Frontier} {set new : List Bool} → AddsAllPatterns nfa wanted front set false new
      → new ≡ set
  AddsAll-none {set = set} {new} g = ext_get_or false new set g.capacity (λ k less.
      same_test (get_or new k false) (get_or set k false)
      (λ h. elim ((g.gained k).0 h) [ inl o ↦ o | inr w ↦ absurd (g.none refl k w.0 w.1) ])
      (λ o. (g.gained k).1 (inl o)))

  -- what a front holds, a larger one holds
  HoldsMatch-more : {f g : Frontier} {k : ℕ} → ((a : Pair × Slots) → In a f → In a g)
      → HoldsMatch wanted (pattern_at nfa) k f → HoldsMatch wanted (pattern_at nfa) k g
  HoldsMatch-more more h = grind (arith, more h.item h.among)

  -- what two fronts hold
  HoldsMatch-append : (f g : Frontier) (k : ℕ) → HoldsMatch wanted (pattern_at nfa) k (f ++ g)
      ↔ (HoldsMatch wanted (pattern_at nfa) k f ⊎ HoldsMatch wanted (pattern_at nfa) k g)
  HoldsMatch-append f g k = (
    λ h. elim (In-append h.item f g h.among) [
      | inl i ↦ inl (record { item = h.item; among = i; matches = h.matches; pattern_is = h.pattern_is })
      | inr i ↦ inr (record { item = h.item; among = i; matches = h.matches; pattern_is = h.pattern_is })
    ],
    λ s. elim s [
      | inl h ↦ HoldsMatch-more (λ a. In-append_left a f g) h
      | inr h ↦ HoldsMatch-more (λ a. In-append_right a f g) h
    ],
  )

  -- one front after another
  pub AddsPatterns-then : (past : Bool) (f g : Frontier) (old mid new : List Bool) (h k : Bool)
      → (past ≡ false → h ≡ false) → AddsPatterns nfa past wanted f old h mid → AddsPatterns nfa past wanted g mid k new
      → AddsPatterns nfa past wanted (f ++ g) old (k || h) new
  AddsPatterns-then true f g old mid new h k on a b = record {
    capacity = b.capacity ∙ a.capacity;
    gained = λ j. grind (arith, HoldsMatch-append f g j, a.gained j, b.gained j, a.capacity);
    some = λ e. grind (arith, HoldsMatch-append f g, a.some, b.some, a.capacity);
    none = λ e j less held. grind (arith, HoldsMatch-append f g j, a.none, b.none, a.capacity);
  }
  AddsPatterns-then false f g old mid new h k on a b =
      let off : h ≡ false = on refl in
      let first : AddsPatterns nfa false wanted f old false mid = rw off at a in
      let n = AddsFirst-none nfa (first_match wanted f) old mid first in
      rw (first-append f g n.0) (of (first_match wanted g) k off (rw n.1 at b))
    where
      of : (o : Hit) (k : Bool) → h ≡ false → AddsFirstPattern nfa o old k new → AddsFirstPattern nfa o old (k || h) new
      of None true off w = let never : true ≡ false = w.0 in cc
      of None false off w = (off, w.1)
      of (Some c) true off w = w
      of (Some c) false off w = let never : false ≡ true = w.0 in cc

-- a match that ends the position counts, and is not passed
both : (c past : Bool) → true ≡ (c && not past) → (c ≡ true) × (past ≡ false)
both c past e = grind arith

-- any other match does not count, if matches are not passed
other : (c past : Bool) → false ≡ (c && not past) → past ≡ false → c ≡ false
other c past e off = grind arith

module _ (nfa : Automaton) (x : Search) (at n : ℕ) where
  -- it knows whether a match may end at the position, and its set has this capacity
  record Knows (past : Bool) (v : PatternSink) : Type 0 where
    passes : v.past_match ≡ past
    may : v.permitted ≡ permits nfa x at
    size : length v.patterns.now ≡ n

  -- a match that counts is a wanted pair
  counts-wanted : (v : PatternSink) (past : Bool) (p : PatternID) (a : Pair × Slots) → Knows past v → a.0.1 ≡ at
      → pattern_of (node_at nfa a.0.0) ≡ Some (number_of p) → counts v p ≡ wants nfa x n a.0
  counts-wanted v past p a k here is =
      let number : ℕ = number_of p in
      ap (λ b. b && nat_lt number (length v.patterns.now)) (k.may ∙ ap (permits nfa x) (sym here))
      ∙ ap (λ m. permits nfa x a.0.1 && nat_lt number m) k.size
      ∙ sym (wants-here nfa x n a.0.0 a.0.1 number is)

  plain-unwanted : (v : Pair) → is_match nfa v ≡ false → wants nfa x n v ≡ false
  plain-unwanted v off = grind (arith, wants-match)

  Knows-after : {v w : PatternSink} {past : Bool} {p : PatternID} {row : Slots} {ended : Bool} → Knows past v
      → PatternSinkTakes v p row ended w → Knows past w
  Knows-after k t = grind (arith, length-with)

  -- a pair that is not wanted
  gathers-other : (a : Pair × Slots) (past : Bool) (set : List Bool) → wants nfa x n a.0 ≡ false
      → AddsPatterns nfa past (wants nfa x n) (a ∷ []) set false set
  gathers-other a past set off = AddsPatterns-none nfa (wants nfa x n) past (a ∷ []) set (grind arith)

  -- a match
  gathers-match : {v w : PatternSink} {past : Bool} {p : PatternID} {ended : Bool} (a : Pair × Slots) → Knows past v
      → a.0.1 ≡ at → pattern_of (node_at nfa a.0.0) ≡ Some (number_of p) → PatternSinkTakes v p a.1 ended w
      → AddsPatterns nfa past (wants nfa x n) (a ∷ []) v.patterns.now (counts v p) w.patterns.now
  gathers-match a k here is t = grind (arith, counts-wanted, AddsPatterns-one, gathers-other)

  -- the patterns of a front, of pairs at the position
  abbrev Gathered : Bool → Frontier → PatternSink → PatternSink → Type 0
  Gathered past front v w = (met : Bool) × (w.met ≡ (met || v.met))
      × AddsPatterns nfa past (wants nfa x n) front v.patterns.now met w.patterns.now

  gathered-then : (a : Pair × Slots) (front : Frontier) (v u w : PatternSink) {past c : Bool}
      → (past ≡ false → c ≡ false) → u.met ≡ (c || v.met)
      → AddsPatterns nfa past (wants nfa x n) (a ∷ []) v.patterns.now c u.patterns.now → Gathered past front u w
      → Gathered past (a ∷ front) v w
  gathered-then a front v u w {past} {c} off noted g rest = (
    rest.0 || c,
    rest.1 ∙ ap (λ b. rest.0 || b) noted ∙ sym (or_assoc rest.0 c v.met),
    AddsPatterns-then nfa (wants nfa x n) past (a ∷ []) front v.patterns.now u.patterns.now w.patterns.now c
        rest.0 off g
        rest.2,
  )

  all-gathered : {front : Frontier} {v w : PatternSink} {past ended : Bool} → Takes nfa PatternSinkTakes front v ended w
      → Knows past v → ((a : Pair × Slots) → In a front → a.0.1 ≡ at) → Gathered past front v w
  all-gathered {past = past} (none {v = v}) k here =
      (false, refl, AddsPatterns-none nfa (wants nfa x n) past [] v.patterns.now (λ b i t. i))
  all-gathered {past = past} (plain {a = a} {front} {v} {w} off t) k here =
      gathered-then a front v v w (λ _. refl) refl (gathers-other a past v.patterns.now (plain-unwanted a.0 off))
      (all-gathered t k (λ b i. here b (inr i)))
  all-gathered (taken {a = a} {front} {v} {u} {w} p is h t) k here =
      gathered-then a front v u w (λ off. other _ _ h.ends (k.passes ∙ off)) h.met
      (gathers-match a k (here a (inl refl)) is h)
      (all-gathered t (Knows-after k h) (λ b i. here b (inr i)))
  all-gathered (ends {a = a} {v} p is h) k here =
      (counts v p, h.met, gathers-match a k (here a (inl refl)) is h)

  -- if there was none, and always with `past`, the position goes on
  on-gathered : {front : Frontier} {v w : PatternSink} {ended : Bool} → Takes nfa PatternSinkTakes front v ended w
      → (v.past_match ≡ true) ⊎ (w.met ≡ false) → ended ≡ false
  on-gathered none on = refl
  on-gathered (plain off t) on = on-gathered t on
  on-gathered (taken p is h t) on = on-gathered t (grind arith)
  on-gathered (ends {v = v} p is h) on = grind arith

-- the result of all states of a position, in terms of the set
pub NextsOverlappingGive-taken : {nfa : Automaton} {x : Search} {at : ℕ} {a b : Moment} {old new : PatternSink}
    → old.met ≡ false → old.permitted ≡ permits nfa x at → All (λ i. length i.1 ≤ 0) a.kept
    → ClosuresGive nfa x PatternSinkTakes at a old b new
    → NextsOverlappingGive nfa x at old.past_match (length old.patterns.now) a old.patterns.now new.met b
    new.patterns.now
NextsOverlappingGive-taken {nfa} {x} {at} {a} {b} {old} {new} fresh may rows c =
    let n : ℕ = length old.patterns.now in
    let here : (i : Pair × Slots) → In i c.leads.front → i.0.1 ≡ at =
    λ i among. (Formed-resting nfa x at b.met.bits c.leads.front c.leads.gives.formed i among).1 in
    let g = all-gathered nfa x at n c.leads.takes_all (record { passes = refl; may = may; size = refl }) here in
    let same : new.met ≡ g.0 = g.1 ∙ ap (λ b. g.0 || b) fresh ∙ or-false g.0 in
    let goes = on-gathered nfa x at n c.leads.takes_all in
    record {
      front = c.leads.front;
      gives = StatesGive-if a.slots b.slots goes (λ on. c.whole (goes on)) c.leads.gives;
      rows = rows;
      gathers = rw same g.2;
      cut = λ off. Takes-cut (wants-match nfa x n) (Knows nfa x at n false) (λ v w a p ended k at_here is h. (
        Knows-after nfa x at n k h,
        h.ends ∙ ap (λ past. counts v p && not past) k.passes ∙ and-true (counts v p)
            ∙ counts-wanted nfa x at n v false p a k at_here is,
      )) x
          (record { passes = off; may = may; size = refl }) here c.leads.takes_all;
    }

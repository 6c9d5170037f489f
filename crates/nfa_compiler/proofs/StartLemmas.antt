-- From the start of a pattern, and from the start of all, the first accepting path is the hit that has to be found.
use Rattle.regex_nfa.specs.Run.{run}
use Rattle.regex_nfa.proofs.PathsLemmas.{run_span}
use Rattle.thompson_nfa.specs.Automaton.{Capture, Match}
use Rattle.nfa_paths.proofs.PathLemmas.{IsFirst-step}
use Rattle.nfa_compiler.specs.declared.block.Site.{Site}
use Rattle.nfa_compiler.proofs.EachLemmas.{Both, both-or}
use Rattle.nfa_compiler.proofs.BlockLemmas.{last_write-append, AreExplicit, Tells, Told, IsClear, among-one, among-cons, walks}
use Rattle.nfa_paths.proofs.MemberLemmas.{option_or-None}
use Rattle.nfa_paths.proofs.PathToLemmas.{EndsWith-cons}
use Rattle.nfa_paths.proofs.Common.{◌≡◌, ℕ, suc, ◌+◌, ◌*◌, ◌-◌, ◌≤◌, ◌<◌, List, [], ◌∷◌, ◌++◌, map, length, refl, sym, ap, ap₂, ◌∙◌, subst, arith, add-zero, nat_lt, ne_eqb, eq-eqb, Option, None, Some, is_some, slice_index, slice_index_or, option_map, option_map_or, if◌then◌else◌, ◌==◌, option_or, le-ltb, cond-false, nat_tests, number_of, Search, Automaton, Pair, In, EndsWith, IsFirst, FirstAmong, pattern_of, slot_of, node_at, is_match, capture, edges_of, edges, slot_among, false}
use Rattle.nfa_compiler.specs.Common.{Re, empty, Trace, accept, attempt, last_write, match_at, slot_in, IsPattern, explicit_slot, PatternHit, hit_of, pick, place_of, writes_of}

-- writes

-- a write may go before others that do not write its slot
write-early : (ws : List (ℕ × ℕ)) (b e slot : ℕ) → last_write ws b ≡ None
    → last_write (ws ++ (b, e) ∷ []) slot ≡ last_write ((b, e) ∷ ws) slot
write-early ws b e slot none =
    grind (arith, nat_tests, last_write-append ws ((b, e) ∷ []) slot, option_or-None (last_write ws slot))

-- the slots of explicit groups come after those of the whole matches
unwritten : (groups : List (List (Option (List ℕ)))) (k slot : ℕ) (ws : List (ℕ × ℕ)) → AreExplicit ws
    → slot < 2 * length groups → last_write (map (λ w. (place_of groups k w.0, w.1)) ws) slot ≡ None
unwritten groups k slot [] all less = refl
unwritten groups k slot (w ∷ ws) all less =
    let place : place_of groups k w.0 ≡ explicit_slot groups k + (w.0 - 2) =
    cond-false (nat_lt w.0 2) _ _ (le-ltb w.0 2 all.0) in
    rw (unwritten groups k slot ws all.1 less, ne_eqb (place_of groups k w.0) slot (λ e. omega arith)) refl

-- what a path says of a hit

module _ (a : Automaton) where
  -- the path ends with a Match of the hit's pattern at the end of the hit, and its slots are those of the hit
  pub record ToldHit (h : PatternHit) (p : List Pair) : Type 0 where
    pub end : Pair
    pub ends : EndsWith end p
    pub at : end.1 ≡ h.trace.end
    pub pattern_is : pattern_of (node_at a end.0) ≡ Some h.pattern
    pub known : h.pattern < length a.groups
    pub slots : (slot : ℕ) → slot_among a p slot ≡ last_write (writes_of a.groups h) slot
    pub start_slot : slot_among a p (2 * h.pattern) ≡ Some h.start
    pub end_slot : slot_among a p (2 * h.pattern + 1) ≡ Some h.trace.end
    pub onward : h.start ≤ h.trace.end

  abbrev pub TellsHit : Option PatternHit → Option (List Pair) → Type 0
  TellsHit = Both ToldHit

  -- one more pair in front, which writes nothing
  pub TellsHit-cons : (v : Pair) (o : Option PatternHit) (r : Option (List Pair)) → capture a v ≡ None → TellsHit o r
      → TellsHit o (option_map (λ p. v ∷ p) r)
  TellsHit-cons v o r none h = grind (arith, same, EndsWith-cons)
    where
      same : (p : List Pair) (slot : ℕ) → slot_among a (v ∷ p) slot ≡ slot_among a p slot
      same p slot = rw none (option_or-None (slot_among a p slot))

module _ (a : Automaton) (x : Search) (whole : x.end ≡ length x.haystack) where
  -- every pair of the list has a state after this one
  abbrev pub EndsBy : ℕ → List Pair → Type 0
  EndsBy state marks = (v : Pair) → In v marks → state < v.0

  -- one pattern
  module _ (k start : ℕ) (re : Re) (made : IsPattern a.states a.groups k start re) (known : k < length a.groups)
      (i : ℕ) (within : i ≤ x.end) where
    abbrev s : Site
    s = made.site

    abbrev v : Pair
    v = (match_at s + 1, i)

    start_here : node_at a (match_at s + 1) ≡ Capture (s.base + made.nfa.start) (slot_in s 0)
    unfolding node_at
    start_here = made.block.start

    match_here : node_at a (match_at s) ≡ Match (number_of s.pattern)
    unfolding node_at
    match_here = made.block.match

    place-same : (slot : ℕ) → slot_in s slot ≡ place_of a.groups k slot
    place-same slot =
        ap₂ (λ m n. if nat_lt slot 2 then (2 * m + slot) else (n + (slot - 2))) made.pattern_is made.slots_are

    -- the writes of explicit groups
    abbrev placed : Trace → List (ℕ × ℕ)
    placed t = map (λ w. (place_of a.groups k w.0, w.1)) t.writes

    -- a path after the start, with the start in front
    tell-some : (t : Trace) (p : List Pair) → i ≤ t.end → Told a s t p
        → ToldHit a (record { pattern = k; start = i; trace = t }) (v ∷ p)
    tell-some t p on told = record {
      end = (match_at s, t.end);
      ends = EndsWith-cons v (match_at s, t.end) p told.ends;
      at = refl;
      pattern_is = ap pattern_of match_here ∙ ap Some made.pattern_is;
      known = known;
      slots = slots;
      start_slot = slots (2 * k) ∙ grind (arith, nat_tests, untouched (2 * k));
      end_slot = slots (2 * k + 1) ∙ rw (untouched (2 * k + 1) (omega arith), eq-eqb (2 * k + 1) (2 * k + 1) refl) refl;
      onward = on;
    }
      where
        untouched : (slot : ℕ) → slot < 2 * length a.groups → last_write (placed t) slot ≡ None
        untouched slot less = unwritten a.groups k slot t.writes told.explicit less

        slots : (slot : ℕ) → slot_among a (v ∷ p) slot
            ≡ last_write (writes_of a.groups (record { pattern = k; start = i; trace = t })) slot
        slots slot =
            ap₂ option_or
            (told.writes slot
            ∙ ap (λ (f : ℕ → ℕ). last_write (map (λ w. (f w.0, w.1)) t.writes ++ (f 1, t.end) ∷ []) slot)
            (λ i slot. place-same slot i)
            ∙ write-early (placed t) (2 * k + 1) t.end slot (untouched (2 * k + 1) (omega arith)))
            (ap (λ o. if option_map_or (λ j. j == slot) o false then Some i else None)
            (ap slot_of start_here ∙ ap Some (place-same 0 ∙ add-zero (2 * k))))

    tell : (o : Option Trace) (r : Option (List Pair)) → ((t : Trace) → o ≡ Some t → i ≤ t.end) → Tells a s o r
        → TellsHit a (hit_of k i o) (option_map (λ p. v ∷ p) r)
    tell o r on h = grind (arith, tell-some)

    -- from the start the first path is the hit of the pattern
    pub pattern-first : (r : Option (List Pair)) × TellsHit a (hit_of k i (attempt x.haystack re accept i)) r
        × ((marks : List Pair) → EndsBy start marks → IsFirst (edges a x) (is_match a) marks (start, i) r)
    unfolding edges_of
    pattern-first =
        let w = walks a x made.nfa s made.block (omega arith) made.nfa.start i made.block.start_in within in
        let gives : run made.nfa x.haystack x.end made.nfa.start i ≡ attempt x.haystack re accept i =
        ap (λ n. run made.nfa x.haystack n made.nfa.start i) whole ∙ made.implements x.haystack i in (
          option_map (λ p. v ∷ p) w.0,
          tell (attempt x.haystack re accept i) w.0
              (λ t e. (run_span made.nfa x.haystack x.end made.nfa.start i t (gives ∙ e)).0)
              (subst (λ o. Tells a s o w.0) gives w.1),
          λ marks behind. subst (λ n. IsFirst (edges a x) (is_match a) marks (n, i) (option_map (λ p. v ∷ p) w.0))
              (sym made.start_is)
              (IsFirst-step (edges a x) (is_match a) marks v (λ member. free marks behind member)
              (ap (λ n. is_some (pattern_of n)) start_here) w.0
              (subst (λ es. FirstAmong (edges a x) (is_match a) (v ∷ marks) es w.0)
              (sym (ap (λ n. edges_of x n i) start_here))
              (among-one (edges a x) (is_match a) (v ∷ marks) (s.base + made.nfa.start, i) w.0
              (w.2 (v ∷ marks) (clear marks behind))))),
        )
      where
        free : (marks : List Pair) → EndsBy start marks → In v marks → ⊥
        free marks behind member = let less : start < match_at s + 1 = behind v member in omega (arith, made.start_is)

        clear : (marks : List Pair) → EndsBy start marks → {n : ℕ}
            → IsClear a x made.nfa s made.block (omega arith) (v ∷ marks) n
        clear marks behind {n} = record {
          states = λ r j below small member. grind (arith, made.start_is, behind (s.base + r, j));
          match = λ j member. grind (arith, made.start_is, behind (match_at s, j));
        }

  -- all patterns

  -- the starts tried in turn give the pick
  pub patterns-among : (i : ℕ) → i ≤ x.end → (res : List Re) (starts : List ℕ) (k : ℕ) → length starts ≡ length res
      → k + length res ≤ length a.groups
      → ((j : ℕ) → j < length res
      → IsPattern a.states a.groups (k + j) (slice_index starts j) (slice_index_or res j empty))
      → (marks : List Pair) → ((j : ℕ) → j < length starts → EndsBy (slice_index starts j) marks)
      → (r : Option (List Pair)) × TellsHit a (pick x.haystack res k i) r
      × FirstAmong (edges a x) (is_match a) marks (map (λ state. (state, i)) starts) r
  patterns-among i within [] [] k count room made marks behind = (None, tt, refl)
  patterns-among i within (re ∷ res) (start ∷ starts) k count room made marks behind =
      let one : IsPattern a.states a.groups k start re =
      subst (λ n. IsPattern a.states a.groups n start re) (add-zero k) (made 0 (omega arith)) in
      let first = pattern-first k start re one (omega arith) i within in
      let rest = patterns-among i within res starts (k + 1) (omega arith) (omega arith)
      (λ j less. let next : k + suc j ≡ k + 1 + j = omega arith in
      subst (λ n. IsPattern a.states a.groups n (slice_index starts j) (slice_index_or res j empty)) next
      (made (suc j) (omega arith))) marks (λ j less. behind (suc j) (omega arith)) in (
        option_or first.0 rest.0,
        both-or (ToldHit a) (hit_of k i (attempt x.haystack re accept i)) (pick x.haystack res (k + 1) i)
            first.0 rest.0 first.1 rest.1,
        among-cons (edges a x) (is_match a) marks (start, i) (map (λ state. (state, i)) starts) first.0 rest.0
            (first.2 marks (behind 0 (omega arith))) rest.2,
      )
  patterns-among i within _ _ k count room made marks behind = absurd (omega arith)

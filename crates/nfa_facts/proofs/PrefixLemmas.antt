-- Each accepting path reads the bytes of the moves that it has to take, and what these bytes mean for a search.
use Rattle.regex_search_core.specs.declared.search.MatchKind.TheVariants.{All}
use Rattle.thompson_nfa.specs.Automaton.Node.{Match}
use Rattle.nfa_paths.proofs.OneScanLemmas.{first-scan}
use Rattle.nfa_paths.proofs.Common.{◌≡◌, ◌∙◌, ℕ, zero, suc, ◌+◌, ◌<◌, ◌≤◌, inl, inr, List, [], ◌∷◌, ◌++◌, length, refl, sym, ap, subst, arith, Option, None, Some, Bool, true, false, ◌==◌, slice_get, if◌then◌else◌, is_some, option_and_then, option_map, option_to_list, option_map_or, nat_tests, Search, Automaton, Node, look_holds, Pair, In, HeadIs, Linked, EndsWith, byte_at, edges, edges_of, holds_byte, node_at, pattern_of, IsMatch, Transition, ByteRange, Sparse, Look, Capture, replicate, cases_lt, length-replicate, MatchKind, IsAnswer, IsBoolAnswer, IsFindAnswer, IsHalfAnswer, IsScanAnswer, IsSearchAnswer, slot_row, LeftmostFirst}
use Rattle.nfa_paths.proofs.StartLemmas.{byte_at-within}
use Rattle.nfa_engines.specs.Laws.{MatchesNothing}
use Rattle.nfa_engines.proofs.StartAnswerLemmas.{nothing-of}
use Rattle.nfa_engines.specs.StartLaws.{anchored_at, IsFirstStart, IsUnbound}
use Rattle.nfa_paths.proofs.FirstStartLemmas.{start-anchored}
use Rattle.nfa_facts.specs.Prefixes.{OccursBefore, OccursNowhere, BeginsWith, bytes_from, move_over, only_move, prefix_of}
use Rattle.nfa_facts.specs.declared.literal.only_move.Move.{Move}
use Rattle.nfa_facts.proofs.OccurrenceLemmas.{occurs-none, occurs-cons, occurs-take}

-- the pair that the move leads to from position p, after it read its byte
abbrev Leads : Search → Option ℕ → ℕ → ℕ → Pair → Type 0
Leads x None next p w = w ≡ (next, p)
Leads x (Some b) next p w = (byte_at x p ≡ Some b) × (w ≡ (next, p + 1))

-- a byte in a range of one byte
one-byte : (t : Transition) (b : ℕ) → (t.start == t.end) ≡ true → holds_byte t b ≡ true → b ≡ t.start
one-byte t b single holds = grind (arith, nat_tests)

-- a byte that is read is in the haystack
pub byte-read : (x : Search) (p b : ℕ) → byte_at x p ≡ Some b → slice_get x.haystack p ≡ Some b
byte-read x p b e = grind arith

module _ (x : Search) where
  over-edge : (t : Transition) (m : Move) (p : ℕ) (w : Pair) → move_over t ≡ Some m
      → In w (option_to_list (option_and_then
      (λ b. option_map (λ next. (next, p + 1)) (if holds_byte t b then Some t.next else None)) (byte_at x p)))
      → Leads x m.byte m.next p w
  over-edge t m p w only i = of (t.start == t.end) refl only
    where
      held : (b : ℕ) (h : Bool) → holds_byte t b ≡ h → (t.start == t.end) ≡ true → byte_at x p ≡ Some b
          → In w (option_to_list (option_map (λ next. (next, p + 1)) (if h then Some t.next else None)))
          → Leads x (Some t.start) t.next p w
      held b false e single at i = absurd i
      held b true e single at (inl same) = (at ∙ ap Some (one-byte t b single e), same)
      held b true e single at (inr never) = absurd never

      read : (o : Option ℕ) → (t.start == t.end) ≡ true → byte_at x p ≡ o
          → In w (option_to_list (option_and_then
          (λ b. option_map (λ next. (next, p + 1)) (if holds_byte t b then Some t.next else None)) o))
          → Leads x (Some t.start) t.next p w
      read None single at i = absurd i
      read (Some b) single at i = held b (holds_byte t b) refl single at i

      of : (single : Bool) → (t.start == t.end) ≡ single
          → (if single then Some (record { byte = Some t.start; next = t.next }) else None) ≡ Some m
          → Leads x m.byte m.next p w
      of false e only = absurd (cc only)
      of true e only =
          let same : record { byte = Some t.start; next = t.next } ≡ m = cc in
          subst (λ (z : Move). Leads x z.byte z.next p w) same (read (byte_at x p) e refl i)

  -- a state with one move leads to the pair of that move
  move-edge : (node : Node) (m : Move) (p : ℕ) (w : Pair) → only_move node ≡ Some m → In w (edges_of x node p)
      → Leads x m.byte m.next p w
  unfolding edges_of
  move-edge (ByteRange t) m p w only i = over-edge t m p w only i
  move-edge (Sparse (t ∷ [])) m p w only i = over-edge t m p w only i
  move-edge (Look look next) m p w only i = passed (look_holds look x.haystack p) i
    where
      same : record { byte = None; next = next } ≡ m
      same = cc

      passed : (holds : Bool) → In w (if holds then (next, p) ∷ [] else []) → Leads x m.byte m.next p w
      passed false i = absurd i
      passed true (inl e) = subst (λ (z : Move). Leads x z.byte z.next p w) same e
      passed true (inr never) = absurd never
  move-edge (Capture next slot) m p w only (inl e) =
      let same : record { byte = None; next = next } ≡ m = cc in
      subst (λ (z : Move). Leads x z.byte z.next p w) same e
  move-edge (Capture next slot) m p w only (inr never) = absurd never
  move-edge _ m p w only i = absurd (cc only)

-- a Match has no move
match-stays : (node : Node) → is_some (pattern_of node) ≡ true → only_move node ≡ None
match-stays (Match pattern) is = refl
match-stays _ is = absurd (cc is)

module _ (nfa : Automaton) (x : Search) where
  -- each list that follows edges from the state to a Match reads these bytes first
  abbrev pub Reads : ℕ → List ℕ → Type 0
  Reads state bytes =
      (at : ℕ) (end : Pair) (p : List Pair) → HeadIs (state, at) p → Linked (edges nfa x) p → EndsWith end p
      → IsMatch nfa end → at ≤ x.end → OccursBefore x.haystack x.end bytes at

  reads-none : (state : ℕ) → Reads state []
  reads-none state at end p head linked ends accepts within = occurs-none x.haystack x.end at within

  reads-move : (state : ℕ) (m : Move) (bytes : List ℕ) → only_move (node_at nfa state) ≡ Some m → Reads m.next bytes
      → Reads state (option_to_list m.byte ++ bytes)
  reads-move state m bytes only later at end [] head linked ends accepts within = absurd head
  reads-move state m bytes only later at end (v ∷ []) head linked ends accepts within =
      let same : end ≡ (state, at) = sym ends ∙ head in
      let here : is_some (pattern_of (node_at nfa state)) ≡ true = subst (λ (z : Pair). IsMatch nfa z) same accepts in
      absurd (cc (match-stays (node_at nfa state) here))
  reads-move state m bytes only later at end (v ∷ (w ∷ p)) head linked ends accepts within =
      of m.byte (move-edge x (node_at nfa state) m at w only (subst (λ (z : Pair). In w (edges nfa x z)) head linked.0))
    where
      of : (byte : Option ℕ) → Leads x byte m.next at w
          → OccursBefore x.haystack x.end (option_to_list byte ++ bytes) at
      of None leads = later at end (w ∷ p) leads linked.1 ends accepts within
      of (Some b) leads =
          let inside : at < x.end = byte_at-within x at b leads.0 in
          occurs-cons x.haystack x.end b bytes at (byte-read x at b leads.0)
          (later (at + 1) end (w ∷ p) leads.1 linked.1 ends accepts (omega arith))

  pub reads-bytes : (moves state : ℕ) → Reads state (bytes_from nfa moves state)
  unfolding bytes_from
  reads-bytes zero state = reads-none state
  reads-bytes (suc moves) state = of (only_move (node_at nfa state)) refl (reads-bytes moves)
    where
      of : (o : Option Move) → only_move (node_at nfa state) ≡ o → ((s : ℕ) → Reads s (bytes_from nfa moves s))
          → Reads state (option_map_or (λ m. option_to_list m.byte ++ bytes_from nfa moves m.next) o [])
      of None e later = reads-none state
      of (Some m) e later = reads-move state m (bytes_from nfa moves m.next) e (later m.next)

-- each accepting path begins with the prefix
pub prefix-begins : (nfa : Automaton) → BeginsWith nfa (prefix_of nfa)
prefix-begins nfa = record {
  occurs = λ x at some.
      let y = anchored_at x at in
      let start = start-anchored nfa x at some.path.start some.path.among in
      let head : HeadIs (nfa.anchored, at) some.along =
      subst (λ (z : Pair). HeadIs z some.along) start.is some.path.head in
      occurs-take x.haystack x.end (bytes_from nfa (length nfa.states) nfa.anchored) at 32
      (reads-bytes nfa y (length nfa.states) nfa.anchored at some.end some.along head some.path.linked some.path.ends
      some.accepts start.within);
}

module _ (nfa : Automaton) (x : Search) (bytes : List ℕ) (begins : BeginsWith nfa bytes) where
  pub nothing-without : (at : ℕ) → ¬ OccursBefore x.haystack x.end bytes at → MatchesNothing nfa (anchored_at x at)
  nothing-without at none = record {
    no_path = λ m p w t. none (begins.occurs x at (record { end = m; along = p; path = w; accepts = t }));
  }

  pub first-moves-on : (from at : ℕ) → IsFirstStart nfa x from → from ≤ at
      → ((k : ℕ) → from ≤ k → k < at → ¬ OccursBefore x.haystack x.end bytes k)
      → IsFirstStart nfa x at
  first-moves-on from at first onward none =
      let low : x.start ≤ from = first.from in
      record {
        from = omega arith;
        nothing = λ i start less.
            elim (cases_lt i from) [
              | inl before ↦ first.nothing i start before
              | inr past ↦ nothing-without i (none i past less)
            ];
      }

  pub nothing-anywhere : IsUnbound nfa x → (from : ℕ) → IsFirstStart nfa x from
      → OccursNowhere x.haystack x.end bytes from → MatchesNothing nfa x
  nothing-anywhere free from first none =
      nothing-of nfa x free
      (λ i start.
      elim (cases_lt i from) [
        | inl before ↦ first.nothing i start before
        | inr past ↦ nothing-without i (none.nowhere i past)
      ])

module _ (nfa : Automaton) (kind : MatchKind) (earliest : Bool) (x : Search) (none : MatchesNothing nfa x) where
  scan-nothing : IsScanAnswer nfa x kind earliest None
  scan-nothing = of kind earliest
    where
      of : (kind : MatchKind) (earliest : Bool) → IsScanAnswer nfa x kind earliest None
      of LeftmostFirst false = none.no_path
      of LeftmostFirst true = none.no_path
      of All false = none.no_path
      of All true = none.no_path

  -- the first scan answers no path
  search-nothing : IsSearchAnswer nfa kind earliest x 0 None
  search-nothing = first-scan nfa kind earliest x None scan-nothing (λ t. tt)

  pub nothing-answer : (n : ℕ) → IsAnswer nfa kind earliest x None (replicate n None)
  unfolding slot_row
  nothing-answer n = record {
    restarts = 0;
    path = None;
    answers = search-nothing;
    pattern_is = refl;
    slots_are = ap (λ (k : ℕ). replicate k None) (sym (length-replicate n None));
  }

  pub nothing-match : IsFindAnswer nfa kind earliest x None
  nothing-match = record { restarts = 0; path = None; answers = search-nothing; found_is = refl }

  pub nothing-half : IsHalfAnswer nfa kind earliest x None
  nothing-half = record { restarts = 0; path = None; answers = search-nothing; found_is = refl }

  pub nothing-found : IsBoolAnswer nfa kind earliest x false
  nothing-found = record { restarts = 0; path = None; answers = search-nothing; found_is = refl }

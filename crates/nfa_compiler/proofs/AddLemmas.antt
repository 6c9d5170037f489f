-- What states that are added after others keep and add. Each number in them is in range, so `NFA::from_states` finds no
-- flaw in them.
use Rattle.std.specs.declared.alloc.Global.{Global}
use Rattle.regex_nfa.specs.States.{state_at}
use Rattle.regex_nfa.specs.declared.nfa.Nfa.{Nfa}
use Rattle.nfa_compiler.specs.Common.{Re, empty, Stands, IsBlock, match_at, slot_in, Adds, HoldsStates, IsPattern, IsPatternAt, ArePatterns, Chooses, explicit_slot, Parsed, LeadsInside, moved, node_for, IsInRange, AreInRange, KeepsInRange, explicit_names, groups_of}
use Rattle.nfa_compiler.specs.declared.block.Site.{Site}
use Rattle.regex_nfa.specs.Run.{state_of}
use Rattle.regex_nfa.proofs.RunLemmas.{sound_of}
use Rattle.regex_nfa.specs.declared.state.State as their_state
use Rattle.regex_nfa.specs.declared.state.State.TheVariants as their
use Rattle.thompson_nfa.specs.Automaton.Node.{Match}
use Rattle.nfa_paths.proofs.Common.{◌≡◌, ℕ, ◌+◌, ◌≤◌, ◌<◌, below_more, inl, inr, List, [], ◌∷◌, ◌++◌, map, length, refl, sym, ap, ap₂, ◌∙◌, subst, arith, length-append, append-nil, append_assoc, vec_len, slice_index_or, Option, Vec, get_or_append_left, get_or_push, length-map, map-append, number_of, Node, node_of, State, ◌*◌, ◌-◌, All, IfSome, option_map, slice_range, string_bytes, cases_lt, le-ltb, cond-false, get_or_default, length-drop, All-map, slot_count, Automaton, IsAutomaton, Sparse, Capture, Fail}

-- a node that was there stays
pub kept-at : (old new : List Node) → Adds old new → (i : ℕ) → i < length old
    → slice_index_or new i Fail ≡ slice_index_or old i Fail
kept-at old new adds i inside =
    ap (λ ns. slice_index_or ns i Fail) adds.1 ∙ get_or_append_left old adds.0 Fail i inside

pub adds-one : (old new : List Node) (n : Node) → new ≡ old ++ n ∷ [] → Adds old new
adds-one old new n e = (n ∷ [], e)

pub adds-trans : (one two three : List Node) → Adds one two → Adds two three → Adds one three
adds-trans one two three h k = (h.0 ++ k.0, k.1 ∙ ap (λ ns. ns ++ k.0) h.1 ∙ append_assoc one h.0 k.0)

pub adds-length : (old new : List Node) → Adds old new → length old ≤ length new
adds-length old new adds = omega (arith, ap length adds.1, length-append old adds.0)

-- as many nodes as states
pub nodes-length : (states : Vec State Global) → vec_len states ≡ length (map node_of states.items)
nodes-length states = omega (arith, states.ok, length-map states.items node_of)

-- the nodes of one state more
pub nodes-push : (states new : List State) (state : State) → new ≡ states ++ state ∷ []
    → map node_of new ≡ map node_of states ++ node_of state ∷ []
nodes-push states new state e = ap (map node_of) e ∙ map-append node_of states (state ∷ [])

-- at first no state was added
pub holds-none : (nodes : List Node) (nfa : Nfa) (s : Site) → HoldsStates nodes nodes nfa s 0
holds-none nodes nfa s = grind (arith, append-nil)

-- then one more
pub holds-more : (old nodes new : List Node) (n : Node) (nfa : Nfa) (s : Site) (count : ℕ) → s.base ≡ length old
    → HoldsStates old nodes nfa s count → Stands nfa.transitions.items s (state_at nfa.states.items count) n
    → new ≡ nodes ++ n ∷ [] → HoldsStates old new nfa s (count + 1)
holds-more old nodes new n nfa s count base h here e = record {
  more = h.more ++ n ∷ [];
  kept = e ∙ ap (λ ns. ns ++ n ∷ []) h.kept ∙ append_assoc old h.more (n ∷ []);
  many = length-append h.more (n ∷ []) ∙ ap (λ k. k + 1) h.many;
  stands =
      below_more (λ q. Stands nfa.transitions.items s (state_at nfa.states.items q)
      (slice_index_or new (s.base + q) Fail)) count
      (λ q before. subst (Stands nfa.transitions.items s (state_at nfa.states.items q))
      (sym (kept-at nodes new (adds-one nodes new n e) (s.base + q) (omega (arith, long)))) (h.stands q before))
      (subst (Stands nfa.transitions.items s (state_at nfa.states.items count))
      (sym (ap (λ ns. slice_index_or ns (s.base + count) Fail) e
      ∙ get_or_push nodes n Fail (s.base + count) long)) here);
}
  where
    long : length nodes ≡ s.base + count
    long = omega (arith, ap length h.kept, length-append old h.more, h.many)

-- the Match and the start make the block whole
module _ (old one two three : List Node) (nfa : Nfa) (s : Site) (next slot : ℕ) (base : s.base ≡ length old)
    (h : HoldsStates old one nfa s s.size) (e : two ≡ one ++ Match (number_of s.pattern) ∷ [])
    (f : three ≡ two ++ Capture next slot ∷ []) where
  long : length one ≡ match_at s
  long = omega (arith, ap length h.kept, length-append old h.more, h.many)

  pub two-length : length two ≡ match_at s + 1
  two-length = ap length e ∙ length-append one (Match (number_of s.pattern) ∷ []) ∙ ap (λ k. k + 1) long

  longest : length three ≡ match_at s + 1 + 1
  longest = ap length f ∙ length-append two (Capture next slot ∷ []) ∙ ap (λ k. k + 1) two-length

  grown : Adds one three
  grown = adds-trans one two three (adds-one one two (Match (number_of s.pattern)) e)
      (adds-one two three (Capture next slot) f)

  pub three-adds : Adds old three
  three-adds = adds-trans old one three (h.more, h.kept) grown

  pub block-made : next ≡ s.base + nfa.start → slot ≡ slot_in s 0 → nfa.start < s.size → IsBlock three nfa s
  block-made to first inside = record {
    states = λ q less.
        subst (Stands nfa.transitions.items s (state_at nfa.states.items q))
        (sym (kept-at one three grown (s.base + q) (omega (arith, long)))) (h.stands q less);
    match = kept-at two three (adds-one two three (Capture next slot) f) (match_at s) (omega (arith, two-length))
        ∙ ap (λ ns. slice_index_or ns (match_at s) Fail) e
        ∙ get_or_push one (Match (number_of s.pattern)) Fail (match_at s) long;
    start = ap (λ ns. slice_index_or ns (match_at s + 1) Fail) f
        ∙ get_or_push two (Capture next slot) Fail (match_at s + 1) two-length
        ∙ ap₂ Capture to first;
    start_in = inside;
    within = omega (arith, longest);
  }

-- a pattern stays in its place
pub pattern-kept : (old new : List Node) (slots k start : ℕ) (re : Re) → Adds old new → IsPatternAt old slots k start re
    → IsPatternAt new slots k start re
pattern-kept old new slots k start re adds made = record {
  nfa = made.nfa;
  site = made.site;
  implements = made.implements;
  block = record {
    states = λ q less. rw (kept-at old new adds (made.site.base + q) (omega (arith, made.block.within)))
        (made.block.states q less);
    match = kept-at old new adds (match_at made.site) (omega (arith, made.block.within)) ∙ made.block.match;
    start = kept-at old new adds (match_at made.site + 1) made.block.within ∙ made.block.start;
    start_in = made.block.start_in;
    within = omega (arith, made.block.within, adds-length old new adds);
  };
  pattern_is = made.pattern_is;
  slots_are = made.slots_are;
  start_is = made.start_is;
}

-- so do all of them
pub patterns-kept : (old new : List Node) (groups : List (List (Option (List ℕ)))) (starts : List ℕ) (res : List Re)
    (count : ℕ) → Adds old new → ArePatterns old groups starts res count → ArePatterns new groups starts res count
patterns-kept old new groups starts res count adds made =
    λ k less. pattern-kept old new (explicit_slot groups k) k _ _ adds (made k less)

-- and one more
pub patterns-more : (old new : List Node) (groups : List (List (Option (List ℕ)))) (starts more : List ℕ) (start : ℕ)
    (res : List Re) (count : ℕ) → Adds old new → ArePatterns old groups starts res count → length starts ≡ count
    → more ≡ starts ++ start ∷ []
    → IsPatternAt new (explicit_slot groups count) count start (slice_index_or res count empty)
    → ArePatterns new groups more res (count + 1)
patterns-more old new groups starts more start res count adds made long e here =
    below_more (λ k. IsPattern new groups k (slice_index_or more k 0) (slice_index_or res k empty)) count
    (λ k before. subst (λ s. IsPattern new groups k s (slice_index_or res k empty))
    (sym (ap (λ ss. slice_index_or ss k 0) e ∙ get_or_append_left starts (start ∷ []) 0 k (omega arith)))
    (pattern-kept old new (explicit_slot groups k) k _ _ adds (made k before)))
    (subst (λ s. IsPattern new groups count s (slice_index_or res count empty))
    (sym (ap (λ ss. slice_index_or ss count 0) e ∙ get_or_push starts start 0 count long)) here)

-- a choice stays one
pub chooses-kept : (old new : List Node) (state : ℕ) (starts : List ℕ) → Adds old new → state < length old
    → Chooses old state starts → Chooses new state starts
chooses-kept old new state starts adds inside (inl one) = inl one
chooses-kept old new state starts adds inside (inr h) = inr (kept-at old new adds state inside ∙ h.0, h.1)

-- with more room

some-wider : (n m : ℕ) (o : Option ℕ) → n ≤ m → IfSome o (λ s. s < n) → IfSome o (λ s. s < m)
some-wider n m o wide h = grind arith

node-wider : (n m slots more patterns all : ℕ) (node : Node) → n ≤ m → slots ≤ more → patterns ≤ all
    → IsInRange n slots patterns node → IsInRange m more all node
node-wider n m slots more patterns all node long wide many h = grind (arith, some-wider)

-- more of them, after the old ones
pub more-in-range : (old new : List Node) (slots more patterns all : ℕ) → Adds old new → slots ≤ more → patterns ≤ all
    → ((i : ℕ) → length old ≤ i → i < length new → IsInRange (length new) more all (slice_index_or new i Fail))
    → AreInRange slots patterns old → AreInRange more all new
more-in-range old new slots more patterns all adds wide many behind h = λ i d inside.
    subst (IsInRange (length new) more all) (get_or_default new i Fail d inside) (elim (cases_lt i (length old)) [
      | inl before ↦
          subst (IsInRange (length new) more all) (sym (kept-at old new adds i before))
          (node-wider (length old) (length new) slots more patterns all (slice_index_or old i Fail)
          (adds-length old new adds) wide many (h i Fail before))
      | inr after ↦ behind i after inside
    ])

-- the states of one pattern

module _ (nodes : List Node) (nfa : Nfa) (s : Site) (block : IsBlock nodes nfa s) (slots : ℕ)
    (long : length nodes ≡ match_at s + 2) (room : s.slots + (nfa.slot_count - 2) ≤ slots)
    (own : 2 * number_of s.pattern + 1 < slots) where
  abbrev Fits : Node → Type 0
  Fits = IsInRange (length nodes) slots (number_of s.pattern + 1)

  node-fits : (q : ℕ) (state : their_state.State) → state_of nfa q ≡ state → LeadsInside nfa.transitions.items s state
      → Fits (node_for nfa.transitions.items s state)
  node-fits q (their.Sparse from to) is inside = (
    All-map (λ t. t.next < length nodes) (moved s) (slice_range nfa.transitions.items from to)
        (λ i d less. omega (arith, inside i d less)),
    tt,
    tt,
  )
  node-fits q (their.Split first second) is inside = ((omega (arith, inside.0), omega (arith, inside.1)), tt, tt)
  node-fits q (their.Save slot next) is inside = grind (arith, sound_of, cond-false, le-ltb)
  node-fits q their.Match is inside = (omega arith, omega arith, tt)
  node-fits q their.Fail is inside = (tt, tt, tt)
  node-fits q _ is inside = (omega (arith, inside), tt, tt)

  pub block-fits : (i : ℕ) → s.base ≤ i → i < length nodes → Fits (slice_index_or nodes i Fail)
  block-fits i from to = elim (cases_lt i (match_at s)) [
    | inl before ↦
        let at : s.base + (i - s.base) ≡ i = omega arith in
        let stands = block.states (i - s.base) (omega arith) in
        subst (λ j. Fits (slice_index_or nodes j Fail)) at
        (subst Fits (sym stands.1) (node-fits (i - s.base) (state_at nfa.states.items (i - s.base)) refl stands.0))
    | inr behind ↦ elim (cases_lt (match_at s) i) [
      | inl past ↦
          let at : i ≡ match_at s + 1 = omega arith in
          rw (at, block.start) (omega (arith, block.start_in), omega arith, tt)
      | inr here ↦
          let at : i ≡ match_at s = omega arith in
          rw (at, block.match) (tt, tt, omega arith)
    ]
  ]

-- one pattern more
pub pattern-in-range : (old new : List Node) (nfa : Nfa) (s : Site) (slots k : ℕ) (p : Parsed) → IsBlock new nfa s
    → Adds old new → s.base ≡ length old → length new ≡ match_at s + 2 → number_of s.pattern ≡ k → s.slots ≡ slots
    → nfa.slot_count ≡ 2 * length p.names.items → 2 * k + 1 < slots → AreInRange slots k old
    → AreInRange (slots + 2 * length (explicit_names p)) (k + 1) new
pattern-in-range old new nfa s slots k p block adds base long is slots_are count own h =
    let more : ℕ = slots + 2 * length (explicit_names p) in
    let names = length-drop 1 (map (option_map string_bytes) p.names.items) in
    let same = length-map p.names.items (option_map string_bytes) in
    more-in-range old new slots more k (k + 1) adds (omega arith) (omega arith)
    (λ i from to. subst (λ n. IsInRange (length new) more (n + 1) (slice_index_or new i Fail)) is
    (block-fits new nfa s block more long (omega arith) (omega arith) i (omega arith) to)) h

-- no flaw: the NFA has the states of all patterns, their choice and the prefix
pub built-valid : (one two : List Node) (patterns : List Parsed) (nfa : Automaton) → nfa.groups ≡ groups_of patterns
    → length nfa.patterns ≡ length patterns → AreInRange (slot_count (groups_of patterns)) (length patterns) one
    → KeepsInRange one two → KeepsInRange two nfa.states → Adds one two → Adds two nfa.states
    → All (λ s. s < length one) nfa.patterns → nfa.anchored < length two → nfa.unanchored < length nfa.states
    → IsAutomaton nfa
built-valid one two patterns nfa are count range first second adds more inside bound free =
    let two_long = adds-length one two adds in
    let three_long = adds-length two nfa.states more in
    let all : AreInRange (slot_count nfa.groups) (length nfa.patterns) nfa.states =
    rw (are, count) (second _ _ (first _ _ range)) in
    record {
      filled = omega arith;
      numbered = record {
        anchored_in = omega arith;
        unanchored_in = free;
        patterns_in = λ i d less. omega (arith, inside i d less);
        targets_in = λ i d less. (all i d less).0;
      };
      slots = λ i d less. (all i d less).1;
      patterns = λ i d less. (all i d less).2;
      groups = inl (ap length are ∙ length-map patterns explicit_names ∙ sym count);
    }

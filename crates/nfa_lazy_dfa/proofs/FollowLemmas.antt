-- The search for paths, without slots, goes through the closure of the states at a position, and on to the next one.
use Rattle.thompson_nfa.specs.Automaton.Node.{Match}
use Rattle.nfa_paths.proofs.SearchLemmas.{AnswerBehind-along}
use Rattle.nfa_paths.proofs.SearchingLemmas.{Searching-marked, Searching-plain, Searching-keep}
use Rattle.nfa_paths.proofs.ScanAnswerLemmas.{edges-onward, edges-rise}
use Rattle.nfa_lazy_dfa.proofs.ExploreLemmas.{Explores, seen-past, unseen-inside}
use Rattle.nfa_lazy_dfa.proofs.ExploreLemmas.Explores.{over, passes, keeps, opens}
use Rattle.nfa_scan_core.proofs.TargetLemmas.{SeenAt-set, SeenAt-clear}
use Rattle.nfa_scan_core.specs.Marks.{SeenAt}
use Rattle.nfa_paths.proofs.StartLemmas.{resting-edges, epsilon-edges}
use Rattle.nfa_paths.proofs.Common.{◌≡◌, ℕ, suc, ◌+◌, ◌<◌, ◌≤◌, inl, inr, Bool, true, false, List, [], ◌∷◌, ◌++◌, length, get_or, set, length-set, map, refl, ap, sym, ◌∙◌, arith, append_assoc, append-nil, Option, None, is_some, option_and_then, option_map, option_to_list, cases_Bool, common_steps, get_or_past, Search, Automaton, Node, Pair, Space, In, Path, Slots, Hit, ExploresTo, Searching, rests, node_at, pattern_of, is_match, byte_at, target_on, edges, edges_of, starts, Fail, stop, go, Explore, holding_at, epsilon_states}

-- the states at a position
abbrev pub pairs : ℕ → List ℕ → List Pair
pairs at states = map (λ s. (s, at)) states

-- a state that was put aside, with no slots
abbrev pub place : ℕ → ℕ → Pair × Slots
place at s = ((s, at), [])

-- each pair of the set is a Match
abbrev pub AreMatches : Automaton → (Pair → Bool) → Type 0
AreMatches nfa target = (v : Pair) → target v ≡ true → is_match nfa v ≡ true

-- all that a scan explores, where no slot is written
abbrev pub bare : Automaton → Search → Space
bare nfa x = record { edges = edges nfa x; capture = λ v. None; starts = starts nfa x }

-- the search for a set of match pairs, of which this work is left
abbrev pub Finding : Automaton → Search → (Pair → Bool) → (Pair → Type 0) → ℕ → List (Pair × Slots) → Hit → List Pair
    → Type 0
Finding nfa x target Seen spent front otherwise work =
    Searching (bare nfa x) target
    (λ g total. ExploresTo (bare nfa x) target total None [] (map Explore (starts nfa x)) [] g) Seen spent front
    otherwise (map Explore work) []

-- the work of several states

pub pairs-append : (at : ℕ) (states more : List ℕ) (rest : List Pair)
    → pairs at (states ++ more) ++ rest ≡ pairs at states ++ (pairs at more ++ rest)
pairs-append at states more rest = grind (arith, common_steps)

pub work-append : (states more : List Pair) → map Explore states ++ map Explore more ≡ map Explore (states ++ more)
work-append states more = grind (arith, common_steps)

-- a state that rests leads to its target
byte-edges : (at : ℕ) (on : ℕ → Option ℕ) (byte : Option ℕ)
    → option_to_list (option_and_then (λ b. option_map (λ next. (let v : Pair = (next, at + 1) in v)) (on b)) byte)
    ≡ pairs (at + 1) (option_to_list (option_and_then on byte))
byte-edges at on byte = grind arith

pub rests-edges : (x : Search) (at : ℕ) (node : Node) → rests node ≡ true
    → edges_of x node at ≡ pairs (at + 1) (option_to_list (option_and_then (target_on node) (byte_at x at)))
rests-edges x at node r = resting-edges x node at r ∙ byte-edges at (target_on node) (byte_at x at)

-- a match rests
pub match-rests : (node : Node) → is_some (pattern_of node) ≡ true → rests node ≡ true
match-rests (Match pattern) m = refl
match-rests _ m = cc

module _ (nfa : Automaton) (x : Search) (at : ℕ) where
  -- What the search for any set of matches comes to by the waiting states: some states are put aside, and some pairs
  -- were seen, after as many turns for each set.
  pub record Followed (seen : List Bool) (waiting out : List ℕ) : Type 0 where
    pub after : List Bool
    pub turns : ℕ
    pub leads : (target : Pair → Bool) → AreMatches nfa target → (spent : ℕ) (front : List (Pair × Slots))
        (otherwise : Hit) (rest : List Pair)
        → Finding nfa x target (SeenAt at seen) spent front otherwise (pairs at waiting ++ rest)
        → Finding nfa x target (SeenAt at after) (spent + turns) (front ++ map (place at) out) otherwise rest

  -- with no state to follow
  Followed-none : (seen : List Bool) → Followed seen [] []
  Followed-none seen = record {
    after = seen;
    turns = 0;
    leads = λ target ok spent front otherwise rest h.
        let same : spent + 0 ≡ spent = omega arith in rw (same, append-nil front) h;
  }

  -- a pair that leads nowhere and is no match is left out
  Finding-dead : (target : Pair → Bool) (v : Pair) → edges nfa x v ≡ [] → (target v ≡ true → ⊥) → {Seen : Pair → Type 0}
      {spent : ℕ} {front : List (Pair × Slots)} {otherwise : Hit} (rest : List Pair)
      → Finding nfa x target Seen spent front otherwise (v ∷ rest)
      → Finding nfa x target Seen spent front otherwise rest
  unfolding ExploresTo
  Finding-dead target v leads plain {front = front} {otherwise} rest s = record {
    marks = s.marks;
    agrees = s.agrees;
    leads = λ g left total e h.
        s.leads g left total e
        (AnswerBehind-along (bare nfa x) target front left left (omega arith) otherwise otherwise s.marks s.marks
        (map Explore rest) (map Explore (v ∷ rest)) [] [] g (λ a. inr (λ p q. none q.path leads plain, a)) h);
  }
    where
      none : {w : Pair} {p : List Pair} → Path (edges nfa x) target w p → edges nfa x w ≡ []
          → (target w ≡ true → ⊥) → ⊥
      none (stop t) leads plain = plain t
      none (go {w = y} t i n h) leads plain = let never : In y [] = rw leads at i in never

  -- no match of a set does not rest
  unrested : (target : Pair → Bool) → AreMatches nfa target → (s : ℕ) → rests (node_at nfa s) ≡ false
      → target (s, at) ≡ false
  unrested target ok s r = grind (arith, match-rests)

  -- a number past the last state leads nowhere
  pub past-edges : (s : ℕ) → length nfa.states ≤ s → edges nfa x (s, at) ≡ []
  unfolding node_at edges_of
  past-edges s past = ap (λ (n : Node). edges_of x n at) (get_or_past nfa.states s Fail past)

  pub past-plain : (s : ℕ) → length nfa.states ≤ s → is_match nfa (s, at) ≡ true → ⊥
  unfolding node_at
  past-plain s past m = grind (arith, get_or_past)

  -- a state that was seen before is passed over
  Followed-seen : (seen : List Bool) (s : ℕ) (waiting out : List ℕ) → length seen ≡ length nfa.states
      → get_or seen s true ≡ true → Followed seen waiting out → Followed seen (s ∷ waiting) out
  Followed-seen seen s waiting out size t f =
      elim (cases_Bool (get_or seen s false)) [
        | inl m ↦ record {
          after = f.after;
          turns = suc f.turns;
          leads = λ target ok spent front otherwise rest h.
              let same : spent + suc f.turns ≡ spent + 1 + f.turns = omega arith in
              rw same (f.leads target ok (spent + 1) front otherwise rest
              (Searching-marked (bare nfa x) target h (record { here = refl; set = m })));
        }
        | inr m ↦
            let k : length seen ≤ s = seen-past seen s t m in
            let past : length nfa.states ≤ s = omega arith in
            record {
              after = f.after;
              turns = f.turns;
              leads = λ target ok spent front otherwise rest h.
                  f.leads target ok spent front otherwise rest
                  (Finding-dead target (s, at) (past-edges s past) (λ d. past-plain s past (ok (s, at) d))
                  (pairs at waiting ++ rest) h);
            }
      ]

  module _ (seen : List Bool) (s : ℕ) (waiting out : List ℕ) (clear : get_or seen s true ≡ false) where
    -- a state that rests is put aside
    Followed-kept : rests (node_at nfa s) ≡ true → Followed (set seen s true) waiting out
        → Followed seen (s ∷ waiting) (s ∷ out)
    Followed-kept r f = record {
      after = f.after;
      turns = suc f.turns;
      leads = λ target ok spent front otherwise rest h.
          let inside : s < length seen = unseen-inside seen s clear in
          let same : spent + suc f.turns ≡ spent + 1 + f.turns = omega arith in
          let kept = Searching-keep (bare nfa x) target h (SeenAt-clear at s seen inside clear)
          (SeenAt-set at s seen inside) (λ v. at < v.1)
          (λ v y a j. let k : v.1 ≤ y.1 = edges-onward nfa x v y j in let l : at < v.1 = a in omega arith)
          (λ w j. edges-rise nfa x (s, at) w r j)
          (λ v m a. let k : v.1 ≡ at = m.here in let l : at < v.1 = a in omega arith) in
          rw (same, ← append_assoc front (place at s ∷ []) (map (place at) out))
          (f.leads target ok (spent + 1) (front ++ place at s ∷ []) otherwise rest kept);
    }

    -- any other gives way to the states that it leads to
    Followed-left : rests (node_at nfa s) ≡ false
        → Followed (set seen s true) (epsilon_states (holding_at x.haystack at) (node_at nfa s) ++ waiting) out
        → Followed seen (s ∷ waiting) out
    Followed-left r f = record {
      after = f.after;
      turns = suc f.turns;
      leads = λ target ok spent front otherwise rest h.
          let inside : s < length seen = unseen-inside seen s clear in
          let same : spent + suc f.turns ≡ spent + 1 + f.turns = omega arith in
          let next = epsilon_states (holding_at x.haystack at) (node_at nfa s) in
          let plain = Searching-plain (bare nfa x) target h (SeenAt-clear at s seen inside clear)
          (SeenAt-set at s seen inside) (unrested target ok s r) (pairs at next)
          (epsilon-edges x (node_at nfa s) at r) refl in
          let joined : map Explore (pairs at next) ++ map Explore (pairs at waiting ++ rest)
          ≡ map Explore (pairs at (next ++ waiting) ++ rest) =
          work-append (pairs at next) (pairs at waiting ++ rest)
          ∙ ap (map Explore) (sym (pairs-append at next waiting rest)) in
          rw same (f.leads target ok (spent + 1) front otherwise rest (rw joined at plain));
    }

  -- the waiting states, all of them
  pub follow : {seen : List Bool} {waiting out : List ℕ} → Explores nfa (holding_at x.haystack at) seen waiting out
      → length seen ≡ length nfa.states → Followed seen waiting out
  follow (over {seen = seen}) size = Followed-none seen
  follow (passes {seen = seen} {s = s} {waiting = waiting} {out = out} t h) size =
      Followed-seen seen s waiting out size t (follow h size)
  follow (keeps {seen = seen} {s = s} {waiting = waiting} {out = out} f r h) size =
      Followed-kept seen s waiting out f r (follow h (length-set seen s true ∙ size))
  follow (opens {seen = seen} {s = s} {waiting = waiting} {out = out} f r h) size =
      Followed-left seen s waiting out f r (follow h (length-set seen s true ∙ size))

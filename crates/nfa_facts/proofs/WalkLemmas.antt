-- Each accepting path is cut where a walk may not pass that reaches no match.
use Rattle.nfa_paths.proofs.Common.{◌≡◌, ◌∙◌, ℕ, ◌+◌, ◌<◌, ◌≤◌, ◌⊎◌, inl, inr, List, [], ◌∷◌, length, get_or, refl, sym, ap, subst, arith, None, Some, Bool, true, slice_get, is_some, below_more, cases_lt, Search, Automaton, Node, Pair, In, HeadIs, Linked, EndsWith, byte_at, edges, edges_of, epsilon_states, holding_at, node_at, pattern_of, target_on, IsMatch}
use Rattle.nfa_paths.proofs.MemberLemmas.{All-In}
use Rattle.nfa_paths.proofs.StartLemmas.{byte_at-within, epsilon-all}
use Rattle.nfa_paths.proofs.EdgeLemmas.{edge-is}
use Rattle.nfa_facts.specs.Reached.{AddsTo}
use Rattle.nfa_facts.specs.Walks.{IsPassable, IsPassed, IsUnderWay, IsWalked, byte_of, state_of}
use Rattle.nfa_facts.specs.declared.literal.walk.Cut.{Cut}
use Rattle.nfa_facts.proofs.PrefixLemmas.{byte-read}
use Rattle.nfa_facts.proofs.ReachedLemmas.{HasTargets-added, In-added, each-in, get-added, tell}

module _ (nfa : Automaton) (cut : Cut) (on_line : Bool) (states : List ℕ) (x : Search) where
  -- the byte of the cut is at the position
  pub record ReadsCut (at : ℕ) : Type 0 where
    pub byte : ℕ
    pub is : byte_of cut ≡ Some byte
    pub read : byte_at x at ≡ Some byte

  -- the pair follows after another byte at the position, and its state is listed
  record ReadsOther (at : ℕ) (w : Pair) : Type 0 where
    byte : ℕ
    read : byte_at x at ≡ Some byte
    onward : w.1 ≡ at + 1
    there : In w.0 states
    line : on_line ≡ true → ¬ (byte ≡ 10)

  -- one of these, or the pair follows without a byte
  abbrev Step : ℕ → Pair → Type 0
  Step at w = ReadsCut at ⊎ (ReadsOther at w ⊎ ((w.1 ≡ at) × In w.0 states))

  edge-step : (node : Node) (at : ℕ) (w : Pair) → IsPassed (byte_of cut) on_line states node
      → In w (edges_of x node at) → Step at w
  edge-step node at w h i =
      elim (edge-is x node at w i) [
        | inl stays ↦
            let free = epsilon_states (holding_at x.haystack at) node in
            let all = epsilon-all (λ s. In s states) (holding_at x.haystack at) node h.targets.without in
            inr (inr (stays.0, All-In (λ s. In s states) free all w.0 stays.1))
        | inr over ↦
            elim (tell (byte_of cut) over.byte) [
              | inl is ↦ inl (record { byte = over.byte; is = is; read = over.is })
              | inr other ↦ inr (inl (record {
                byte = over.byte;
                read = over.is;
                onward = over.next;
                there = h.targets.over.others over.byte w.0 (λ same. other (sym same)) over.target;
                line = λ l ten.
                    let none : target_on node 10 ≡ None = h.line l in
                    let here : target_on node 10 ≡ Some w.0 =
                    subst (λ c. target_on node c ≡ Some w.0) ten over.target in
                    absurd (cc (none, here));
              }))
            ]
      ]

  -- the rest of a path from the state of the cut on, at the position
  pub record PassesCut (end : Pair) (at : ℕ) : Type 0 where
    pub state : ℕ
    pub is : state_of cut ≡ Some state
    pub rest : List Pair
    pub head : HeadIs (state, at) rest
    pub linked : Linked (edges nfa x) rest
    pub ends : EndsWith end rest
    pub within : at ≤ x.end

  -- the path is cut at the position or after it, and on a line no line feed is between
  pub record IsCut (end : Pair) (at : ℕ) : Type 0 where
    pub place : ℕ
    pub onward : at ≤ place
    pub what : ReadsCut place ⊎ PassesCut end place
    pub line : on_line ≡ true → (k : ℕ) → at ≤ k → k < place → ¬ (slice_get x.haystack k ≡ Some 10)

  -- another byte is before the cut
  cut-over : (end : Pair) (at : ℕ) (w : Pair) → ReadsOther at w → IsCut end w.1 → IsCut end at
  cut-over end at w step h =
      let next : w.1 ≡ at + 1 = step.onward in
      let past : w.1 ≤ h.place = h.onward in
      record {
        place = h.place;
        onward = omega arith;
        what = h.what;
        line = λ l k low less ten.
            elim (cases_lt at k) [
              | inl more ↦ h.line l k (omega arith) less ten
              | inr most ↦
                  let same : k ≡ at = omega arith in
                  let read : slice_get x.haystack at ≡ Some step.byte = byte-read x at step.byte step.read in
                  let is : slice_get x.haystack at ≡ Some 10 = subst (λ j. slice_get x.haystack j ≡ Some 10) same ten in
                  step.line l (cc (read, is))
            ];
      }

  cut-here : (end : Pair) (at : ℕ) → ReadsCut at ⊎ PassesCut end at → IsCut end at
  cut-here end at what = record {
    place = at;
    onward = omega arith;
    what = what;
    line = λ l k low less. absurd (omega arith);
  }

  module _ (walked : IsWalked nfa cut on_line states) where
    -- each list that follows edges from a listed state to a Match is cut
    pub path-cut : (s at : ℕ) (end : Pair) (p : List Pair) → In s states → HeadIs (s, at) p → Linked (edges nfa x) p
        → EndsWith end p → IsMatch nfa end → at ≤ x.end → IsCut end at
    path-cut s at end [] there head linked ends accepts within = absurd head
    path-cut s at end (v ∷ []) there head linked ends accepts within =
        elim (tell (state_of cut) s) [
          | inl is ↦ cut-here end at (inr (record {
            state = s;
            is = is;
            rest = v ∷ [];
            head = head;
            linked = linked;
            ends = ends;
            within = within;
          }))
          | inr other ↦
              let same : end ≡ (s, at) = sym ends ∙ head in
              let here : is_some (pattern_of (node_at nfa s)) ≡ true =
              subst (λ (z : Pair). IsMatch nfa z) same accepts in
              let plain : pattern_of (node_at nfa s) ≡ None = (walked.passed s there other).plain in
              absurd (cc (here, ap is_some plain))
        ]
    path-cut s at end (v ∷ (w ∷ p)) there head linked ends accepts within =
        elim (tell (state_of cut) s) [
          | inl is ↦ cut-here end at (inr (record {
            state = s;
            is = is;
            rest = v ∷ (w ∷ p);
            head = head;
            linked = linked;
            ends = ends;
            within = within;
          }))
          | inr other ↦ elim (edge-step (node_at nfa s) at w (walked.passed s there other)
              (subst (λ (z : Pair). In w (edges nfa x z)) head linked.0)) [
                | inl here ↦ cut-here end at (inl here)
                | inr onward ↦ elim onward [
                  | inl step ↦
                      let next : w.1 ≡ at + 1 = step.onward in
                      let inside : at < x.end = byte_at-within x at step.byte step.read in
                      cut-over end at w step
                      (path-cut w.0 w.1 end (w ∷ p) step.there refl linked.1 ends accepts (omega arith))
                  | inr stays ↦
                      let same : w.1 ≡ at = stays.0 in
                      subst (IsCut end) stays.0
                      (path-cut w.0 w.1 end (w ∷ p) stays.1 refl linked.1 ends accepts (omega arith))
                ]
              ]
        ]

module _ (nfa : Automaton) (cut : Cut) where
  -- all states of the list are passed
  pub walked-of : (line : Bool) (done : ℕ) (states : List ℕ) → done ≡ length states
      → IsUnderWay nfa cut line done states → IsWalked nfa cut line states
  walked-of line done states all under = record {
    start = under.start;
    passed = each-in (IsPassable nfa cut line states) states (λ k less. under.passed k (omega (arith, all)));
  }

  -- what was passed stays passed
  passed-more : (line more : Bool) {a b : List ℕ} (s : ℕ) → AddsTo a b → (more ≡ true → line ≡ true)
      → IsPassable nfa cut line a s → IsPassable nfa cut more b s
  passed-more line more s adds less h = λ other. record {
    plain = (h other).plain;
    targets = HasTargets-added adds (h other).targets;
    line = λ is. (h other).line (less is);
  }

  -- one state more is passed
  pub under-way-step : (line more : Bool) (done : ℕ) (old new : List ℕ) (s : ℕ) → done < length old
      → get_or old done 0 ≡ s → IsUnderWay nfa cut line done old → AddsTo old new → (more ≡ true → line ≡ true)
      → IsPassable nfa cut more new s → IsUnderWay nfa cut more (done + 1) new
  under-way-step line more done old new s inside is under adds less here = record {
    start = In-added adds nfa.anchored under.start;
    passed = below_more (λ k. IsPassable nfa cut more new (get_or new k 0)) done
        (λ k h.
        let within : k < length old = omega arith in
        rw (get-added adds k within) (passed-more line more (get_or old k 0) adds less (under.passed k h)))
        (rw (get-added adds done inside, is) here);
  }

-- The steps of a search for a way that does not write its bounds.
use Rattle.nfa_paths.proofs.Common.{◌≡◌, ℕ, suc, zero, ◌+◌, ◌<◌, ◌≤◌, inl, inr, List, [], ◌∷◌, ◌++◌, length, take, refl, ap, sym, ◌∙◌, arith, subst, below_more, Option, Some, None, false, Bool, All, IfSome, IsTrue, ◌↔◌, filter_map, slice_get, take_more, take_all, take-append-le, length-append, get_or_from_slice_get, slice_get_within, Pattern, number_of, PatternID, Automaton, Node, LeadsBelow, In, node_at, pattern_of, Transition, Sparse, Dense, Union}
use Rattle.nfa_paths.proofs.MemberLemmas.{In-append, In-append_left, All-In, In-mapped}
use Rattle.nfa_paths.specs.StatePaths.{targets, IsStart}
use Rattle.nfa_facts.specs.PathStates.{fresh_path_state, at_state, after_node, next_places, is_recorded, IsFresh, GainsPathStates, IsFine, IsClosed, IsUnderWay, IsLedTo}
use Rattle.nfa_facts.proofs.StatePathLemmas.{IsLedTo-fresh, IsLedTo-next}
use Rattle.nfa_facts.specs.declared.match_spans.path_state.PathState.{PathState}

-- lists

pub slice_get-in : {A : Type 0} (xs : List A) (k : ℕ) (x : A) → slice_get xs k ≡ Some x → In x xs
slice_get-in [] k x e = cc
slice_get-in (y ∷ xs) zero x e = let same : y ≡ x = cc in inl (sym same)
slice_get-in (y ∷ xs) (suc k) x e = inr (slice_get-in xs k x e)

-- targets

present-below : (n s : ℕ) (places : List (Option ℕ)) → All (λ o. IfSome o (λ t. t < n)) places
    → In s (filter_map (λ target. target) places) → s < n
present-below n s [] all i = absurd i
present-below n s (o ∷ places) all i =
    let rest = present-below n s places (λ k d h. all (suc k) d (omega arith)) in
    let first = all 0 None (omega arith) in
    grind arith

pub targets-below : (n s : ℕ) (node : Node) → LeadsBelow n node → In s (targets node) → s < n
unfolding targets
targets-below n s (Sparse ts) leads i =
    let of = In-mapped (λ (t : Transition). t.next) s ts i in
    rw of.2 (All-In (λ (t : Transition). t.next < n) ts leads of.0 of.1)
targets-below n s (Dense places) leads i = present-below n s places leads i
targets-below n s (Union alternates) leads i = All-In (λ t. t < n) alternates leads s i
targets-below n s _ leads i = grind arith

-- starts

pub IsFresh-of : (nfa : Automaton) (s : ℕ) → IsStart nfa s → (v : PathState) → v ≡ fresh_path_state s → IsFresh nfa v
IsFresh-of nfa s start v e = rw e (start, refl)

-- the states that searches start with are the anchored start and those of the patterns that have a number
pub starts-all : (nfa : Automaton) (P : ℕ → Type 0) → P nfa.anchored
    → ((k s : ℕ) → k < length nfa.patterns → k ≤ 2147483646 → slice_get nfa.patterns k ≡ Some s → P s)
    → (s : ℕ) → IsStart nfa s → P s
starts-all = grind (arith, slice_get_within)

pub IsStart-pattern : (nfa : Automaton) (pattern : PatternID) (o : Option ℕ)
    → o ≡ slice_get nfa.patterns (number_of pattern) → IfSome o (IsStart nfa)
IsStart-pattern nfa pattern None e = tt
IsStart-pattern nfa pattern (Some s) e = (Pattern pattern, sym e)

-- places that were added

pub GainsPathStates-kept : {old new wanted : List PathState} → GainsPathStates old new wanted → (v : PathState)
    → In v old → In v new
GainsPathStates-kept {old = old} g v i = rw g.kept (In-append_left v old g.more i)

pub GainsPathStates-each : {old new wanted : List PathState} (P : PathState → Type 0) → GainsPathStates old new wanted
    → ((v : PathState) → In v old → P v) → ((v : PathState) → In v wanted → P v) → (v : PathState) → In v new → P v
GainsPathStates-each {old = old} P g before here v i = grind (arith, In-append v old g.more)

-- one start more
pub starts-only : (nfa : Automaton) {old new : List PathState} (s : ℕ)
    → GainsPathStates old new (fresh_path_state s ∷ [])
    → IsStart nfa s
    → ((v : PathState) → In v old → IsFresh nfa v) → (v : PathState) → In v new → IsFresh nfa v
starts-only nfa s gains start only = GainsPathStates-each (IsFresh nfa) gains only (grind (arith, IsFresh-of))

pub starts-below : (n : ℕ) {old new : List PathState} (s : ℕ)
    → GainsPathStates old new (fresh_path_state s ∷ []) → s < n
    → ((v : PathState) → In v old → v.state < n) → (v : PathState) → In v new → v.state < n
starts-below n s gains less below = GainsPathStates-each (λ (v : PathState). v.state < n) gains below (grind arith)

-- the starts of the patterns so far, with one more
pub patterns-more : (nfa : Automaton) (old new : List PathState) (index start : ℕ)
    → GainsPathStates old new (fresh_path_state start ∷ [])
    → ((k s : ℕ) → k < index → k ≤ 2147483646 → slice_get nfa.patterns k ≡ Some s → In (fresh_path_state s) old)
    → (index ≤ 2147483646 → Some start ≡ slice_get nfa.patterns index)
    → (k : ℕ) → k < index + 1 → (s : ℕ) → k ≤ 2147483646 → slice_get nfa.patterns k ≡ Some s
    → In (fresh_path_state s) new
patterns-more nfa old new index start gains before here =
    below_more (λ k. (s : ℕ) → k ≤ 2147483646 → slice_get nfa.patterns k ≡ Some s → In (fresh_path_state s) new) index
    (λ k h s small e. GainsPathStates-kept gains (fresh_path_state s) (before k s h small e))
    (grind arith)

-- or if the pattern has none
pub patterns-same : (nfa : Automaton) (places : List PathState) (index : ℕ) (found : Option ℕ)
    → ((k s : ℕ) → k < index → k ≤ 2147483646 → slice_get nfa.patterns k ≡ Some s → In (fresh_path_state s) places)
    → (index ≤ 2147483646 → found ≡ slice_get nfa.patterns index) → found ≡ None
    → (k : ℕ) → k < index + 1 → (s : ℕ) → k ≤ 2147483646 → slice_get nfa.patterns k ≡ Some s
    → In (fresh_path_state s) places
patterns-same nfa places index found before here none = grind arith

module _ (nfa : Automaton) (pattern : ℕ) where
  pub IsUnderWay-begin : (places : List PathState) → ((s : ℕ) → IsStart nfa s → In (fresh_path_state s) places)
      → ((v : PathState) → In v places → IsFresh nfa v) → ((v : PathState) → In v places → v.state < length nfa.states)
      → IsUnderWay nfa pattern 0 places
  IsUnderWay-begin places starts only below = grind (arith, IsLedTo-fresh)

  -- one place more is done, and what follows was added
  pub IsUnderWay-step : (done : ℕ) (old new : List PathState) (v : PathState) → IsUnderWay nfa pattern done old
      → slice_get old done ≡ Some v → IsFine nfa pattern v → LeadsBelow (length nfa.states) (node_at nfa v.state)
      → GainsPathStates old new (next_places nfa pattern v) → IsUnderWay nfa pattern (done + 1) new
  IsUnderWay-step done old new v under is fine leads gains =
      let inside : done < length old = slice_get_within old done v is in
      let there : In v old = slice_get-in old done v is in
      let node = node_at nfa v.state in
      let more : (w : PathState) → In w (take (done + 1) new) → In w (take done old ++ v ∷ []) =
      λ w i. subst (In w) (first inside) i in
      record {
        inside = omega (arith, ap length gains.kept, length-append old gains.more, inside);
        closed = record {
          starts = λ s start. GainsPathStates-kept gains (fresh_path_state s) (under.closed.starts s start);
          covers = λ w i u j.
              elim (In-append w (take done old) (v ∷ []) (more w i)) [
                | inl k ↦ GainsPathStates-kept gains u (under.closed.covers w k u j)
                | inr k ↦ grind arith
              ];
          fine = λ w i.
              elim (In-append w (take done old) (v ∷ []) (more w i)) [
                | inl k ↦ under.closed.fine w k
                | inr k ↦ elim k [ inl e ↦ subst (IsFine nfa pattern) (sym e) fine | inr never ↦ absurd never ]
              ];
        };
        below = GainsPathStates-each (λ w. w.state < length nfa.states) gains under.below (λ w i.
            let of = In-mapped (at_state (after_node pattern node v)) w (targets node) i in
            subst (λ (z : PathState). z.state < length nfa.states) (sym of.2)
            (targets-below (length nfa.states) of.0 node leads of.1));
        led = GainsPathStates-each (IsLedTo nfa pattern) gains under.led
            (λ w i. IsLedTo-next nfa pattern v w (under.led v there) i);
      }
    where
      first : done < length old → take (done + 1) new ≡ take done old ++ v ∷ []
      first inside =
          let enough : done + 1 ≤ length old = omega arith in
          ap (take (done + 1)) gains.kept ∙ take-append-le (done + 1) old gains.more enough
          ∙ take_more old done v inside
          ∙ ap (λ (z : PathState). take done old ++ z ∷ []) (get_or_from_slice_get old done v v is)

  -- all places are done
  pub IsUnderWay-done : (done : ℕ) (places : List PathState) → length places ≤ done → IsUnderWay nfa pattern done places
      → IsClosed nfa pattern places places
  IsUnderWay-done done places all under = rw take_all at under.closed

  -- what was not found to lack a bound does not
  pub IsFine-of : (v : PathState) (node : Node) (lacks : Bool) → node_at nfa v.state ≡ node
      → (IsTrue lacks ↔ ((pattern_of node ≡ Some pattern) × (is_recorded v ≡ false))) → lacks ≡ false
      → IsFine nfa pattern v
  IsFine-of v node lacks is tells not-so matches = grind arith

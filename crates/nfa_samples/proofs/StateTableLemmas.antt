-- A table that is sound makes an NFA, and a name in a list is one of its names.
use Rattle.std.proofs.Common.{◌≡◌, ◌⊎◌, inl, inr, ℕ, ◌+◌, ◌<◌, Bool, true, ◌||◌, nat_lt, nat_le, nat_eq, List, [], ◌∷◌, ◌++◌, map, length, Result, Ok, Err, refl, subst, sym, ap, arith, append-nil, append_assoc, All, IsOkUnless, IsTrue, slice_index_or, zero, suc, ◌↔◌, Option, rules, IsNone, IsSome, IfOk, IfErr}
use Rattle.std.specs.List.{list_all}
use Rattle.std.proofs.lemmas.List.Elements.{All-append, All-cons, All-map}
use Rattle.std.proofs.lemmas.List.Sums.{AllPass-from_list_all}
use Rattle.std.proofs.lemmas.Bool.{and_parts, eqb-true, ltb-true, or_cases}
use Rattle.std.proofs.lemmas.List.{length-append, length-map, map-append}
use Rattle.regex_search_core.specs.Groups.{slot_count}
use Rattle.thompson_nfa.specs.declared.nfa.BuildError.{BuildError}
use Rattle.thompson_nfa.specs.declared.nfa.BuildError.TheVariants as error
use Rattle.thompson_nfa.specs.declared.state.State.{State}
use Rattle.thompson_nfa.specs.Automaton as nfa
use Rattle.thompson_nfa.specs.Automaton.{Node, node_of, Automaton, IsAutomaton, LeadsBelow, SlotBelow, PatternBelow}
use Rattle.thompson_nfa.specs.Flaws.{IsBuilt}
use Rattle.thompson_nfa.proofs.FlawLemmas.{no-flaw}
use Rattle.nfa_samples.specs.declared.state_table.StateRow.{StateRow}
use Rattle.nfa_samples.specs.declared.state_table.StateRow.TheVariants.{Byte, Range, Ranges, Either, Union, Capture, Assert, Match}
use Rattle.nfa_samples.specs.declared.state_table.StateTable.{StateTable}
use Rattle.nfa_samples.specs.StateTables.{automaton_in, groups_in, is_row, is_sound, node_in, prefix_at, transition_in}
use Rattle.nfa_samples.specs.Names.{IsNoneOf}

-- what passes the test has the property
all-passing : {X : Type 0} (p : X → Bool) (P : X → Type 0) (xs : List X) → ((x : X) → p x ≡ true → P x)
    → list_all p xs ≡ true → All P xs
all-passing p P xs each e = λ i d below. each (slice_index_or xs i d) (AllPass-from_list_all p xs e i d below)

-- what tests say that pass
either : (a b c : ℕ) → (nat_eq a b || nat_eq a c) ≡ true → (a ≡ b) ⊎ (a ≡ c)
either a b c e =
    elim (or_cases (nat_eq a b) (nat_eq a c) e) [ inl s ↦ inl (eqb-true a b s) | inr s ↦ inr (eqb-true a c s) ]

module _ (states slots patterns : ℕ) where
  -- the state of a row that passes its test
  leads : (r : StateRow) → is_row states slots patterns r ≡ true → LeadsBelow states (node_in r)
  leads (Byte byte next) e = ltb-true next states e
  leads (Range start end next) e = ltb-true next states e
  leads (Ranges ranges next) e = All-map (λ t. t.next < states) _ ranges.now (λ i d within. ltb-true next states e)
  leads (Either first second) e =
      let parts = and_parts (nat_lt first states) (nat_lt second states) e in
      (ltb-true first states parts.0, ltb-true second states parts.1)
  leads (Union numbers) e = all-passing _ (λ s. s < states) numbers.now (λ s. ltb-true s states) e
  leads (Capture slot next) e = ltb-true next states (and_parts (nat_lt next states) (nat_lt slot slots) e).0
  leads (Assert look next) e = ltb-true next states e
  leads (Match pattern) e = tt

  writes : (r : StateRow) → is_row states slots patterns r ≡ true → SlotBelow slots (node_in r)
  writes (Capture slot next) e = ltb-true slot slots (and_parts (nat_lt next states) (nat_lt slot slots) e).1
  writes _ e = tt

  matches : (r : StateRow) → is_row states slots patterns r ≡ true → PatternBelow patterns (node_in r)
  matches (Match pattern) e = ltb-true pattern patterns e
  matches _ e = tt

-- what the tests of a table say
pub record Sound (more : ℕ) (d : StateTable) : Type 0 where
  pub filled : 0 < length d.rows.now
  pub rows : list_all (is_row (length d.rows.now + more) (slot_count (groups_in d.groups.now)) (length d.starts.now))
      d.rows.now ≡ true
  pub starts : All (λ s. s < length d.rows.now + more) d.starts.now
  pub groups : (length d.groups.now ≡ length d.starts.now) ⊎ (length d.groups.now ≡ 0)

-- a table that passes them
pub sound : (more : ℕ) (d : StateTable) → IsTrue (is_sound more d) → Sound more d
sound more d e =
    let g = and_parts _ (nat_le (slot_count (groups_in d.groups.now)) 2147483646) e in
    let f = and_parts _ (nat_eq (length d.groups.now) (length d.starts.now) || nat_eq (length d.groups.now) 0) g.0 in
    let e = and_parts _ (nat_le (length d.starts.now) 2147483647) f.0 in
    let s = and_parts _ (list_all (λ start. nat_lt start (length d.rows.now + more)) d.starts.now) e.0 in
    let r = and_parts _ (list_all (is_row (length d.rows.now + more) (slot_count (groups_in d.groups.now))
    (length d.starts.now)) d.rows.now) s.0 in
    let n = and_parts (nat_lt 0 (length d.rows.now)) (nat_le (length d.rows.now + more) 2147483647) r.0 in
    record {
      filled = ltb-true _ _ n.0;
      rows = r.1;
      starts = all-passing _ (λ s. s < length d.rows.now + more) d.starts.now (λ s. ltb-true s _) s.1;
      groups = either _ _ _ f.1;
    }

module _ (more : ℕ) (d : StateTable) (is : Sound more d) where
  -- what holds of rows that pass, of each
  all-rows : (P : StateRow → Type 0) → ((r : StateRow)
      → is_row (length d.rows.now + more) (slot_count (groups_in d.groups.now)) (length d.starts.now) r ≡ true → P r)
      → All P d.rows.now
  all-rows P each = all-passing _ P d.rows.now each is.rows

  -- with the states of its rows, and others that are sound too
  module _ (nodes : List Node) (unanchored : ℕ)
      (all : length (map node_in d.rows.now ++ nodes) ≡ length d.rows.now + more)
      (start : unanchored < length d.rows.now + more)
      (lead : All (LeadsBelow (length d.rows.now + more)) nodes)
      (write : All (SlotBelow (slot_count (groups_in d.groups.now))) nodes)
      (match : All (PatternBelow (length d.starts.now)) nodes) where
    all-nodes : (P : Node → Type 0) → All (λ r. P (node_in r)) d.rows.now → All P nodes
        → All P (map node_in d.rows.now ++ nodes)
    all-nodes P rows others = All-append P (map node_in d.rows.now) nodes (All-map P node_in d.rows.now rows) others

    pub makes : IsAutomaton (automaton_in (map node_in d.rows.now ++ nodes) unanchored d)
    makes = let filled = is.filled in record {
      filled = omega arith;
      numbered = record {
        anchored_in = omega arith;
        unanchored_in = omega arith;
        patterns_in = subst (λ n. All (λ s. s < n) d.starts.now) (sym all) is.starts;
        targets_in = subst (λ n. All (LeadsBelow n) (map node_in d.rows.now ++ nodes)) (sym all)
            (all-nodes (LeadsBelow _) (all-rows (λ r. LeadsBelow _ (node_in r)) (leads _ _ _)) lead);
      };
      slots = all-nodes (SlotBelow _) (all-rows (λ r. SlotBelow _ (node_in r)) (writes _ _ _)) write;
      patterns = all-nodes (PatternBelow _) (all-rows (λ r. PatternBelow _ (node_in r)) (matches _ _ _)) match;
      groups = simp length-map is.groups;
    }

-- so it is made
pub IsBuilt-made : (a : Automaton) (r : Result Automaton BuildError) → IsAutomaton a → IsBuilt a r → r ≡ Ok a
IsBuilt-made a (Ok made) is built = ap Ok built.1
IsBuilt-made a (Err e) is built = absurd (no-flaw a built.0 is built.1)

-- so the error, if there is one, is that of memory
pub memory-alone : (a : Automaton) (r : Result Automaton BuildError) → IsAutomaton a → IsBuilt a r
    → IsOkUnless r error.Memory
memory-alone a r is built = rw (IsBuilt-made a r is built) tt

-- the states of the rows only
pub anchored-makes : (d : StateTable) → Sound 0 d → IsAutomaton (automaton_in (map node_in d.rows.now) 0 d)
anchored-makes d is =
    let filled = is.filled in
    subst (λ nodes. IsAutomaton (automaton_in nodes 0 d)) (append-nil (map node_in d.rows.now))
    (makes 0 d is [] 0 (rw length-append (rw length-map (omega arith))) (omega arith)
    (λ i n inside. absurd (omega arith)) (λ i n inside. absurd (omega arith)) (λ i n inside. absurd (omega arith)))

two : {X : Type 0} (P : X → Type 0) (x y : X) → P x → P y → All P (x ∷ y ∷ [])
two P x y first second =
    All-cons P x (y ∷ []) first (All-cons P y [] second (λ (i : ℕ). λ d inside. absurd (omega arith)))

-- and with the prefix
pub prefixed-makes : (d : StateTable) → Sound 2 d
    → IsAutomaton (automaton_in (map node_in d.rows.now ++ prefix_at (length d.rows.now)) (length d.rows.now) d)
prefixed-makes d is =
    let n = length d.rows.now in
    makes 2 d is (prefix_at n) n (rw length-append (rw length-map refl)) (omega arith)
    (two (LeadsBelow (n + 2)) (nfa.BinaryUnion 0 (n + 1)) (nfa.ByteRange (transition_in 0 255 n))
    (omega arith, omega arith) (omega arith))
    (two (SlotBelow (slot_count (groups_in d.groups.now))) (nfa.BinaryUnion 0 (n + 1))
    (nfa.ByteRange (transition_in 0 255 n)) tt tt)
    (two (PatternBelow (length d.starts.now)) (nfa.BinaryUnion 0 (n + 1)) (nfa.ByteRange (transition_in 0 255 n)) tt tt)

-- the states of the rows, and two that were pushed
pub two-pushed : (states first second : List State) (s t : State) (rows : List StateRow) (a b : Node)
    → map node_of states ≡ map node_in rows → first ≡ states ++ s ∷ [] → second ≡ first ++ t ∷ []
    → node_of s ≡ a → node_of t ≡ b → map node_of second ≡ map node_in rows ++ a ∷ b ∷ []
two-pushed states first second s t rows a b are one two is_a is_b =
    rw two (rw one (rw map-append (rw map-append (rw are (rw is_a (rw is_b (rw append_assoc refl)))))))

-- there are as many as rows
pub as-many : (states : List State) (rows : List StateRow) → map node_of states ≡ map node_in rows
    → length states ≡ length rows
as-many states rows are = simp length-map at (ap length are)

-- the name at a place
among : (k : ℕ) (name : List ℕ) (names : List (List ℕ)) → k < length names → name ≡ slice_index_or names k []
    → IsNoneOf name names → ⊥
among k name [] below is none = absurd (omega arith)
among zero name (n ∷ names) below is none = none.0 is
among (suc k) name (n ∷ names) below is none = among k name names (omega arith) is none.1

-- if the name is there and something is found, nothing is found exactly if the name is none of the names
pub found-among : {A E : Type 0} (r : Result (Option A) E) (k : ℕ) (name : List ℕ) (names : List (List ℕ))
    → k < length names → name ≡ slice_index_or names k [] → IfOk r IsSome
    → IfOk r (λ found. IsNone found ↔ IsNoneOf name names)
found-among = search (rules, among)

-- and an error is one of a name that is known
pub error-among : {A E : Type 0} (r : Result (Option A) E) (k : ℕ) (name : List ℕ) (names : List (List ℕ))
    → k < length names → name ≡ slice_index_or names k [] → IfErr r (λ e. ¬ (IsNoneOf name names))
error-among = search (rules, among)

-- a name that is none of two lists is none of the first
none-left : (name : List ℕ) (xs ys : List (List ℕ)) → IsNoneOf name (xs ++ ys) → IsNoneOf name xs
none-left name [] ys none = tt
none-left name (x ∷ xs) ys none = (none.0, none-left name xs ys none.1)

-- and none of the second
none-right : (name : List ℕ) (xs ys : List (List ℕ)) → IsNoneOf name (xs ++ ys) → IsNoneOf name ys
none-right name [] ys none = none
none-right name (x ∷ xs) ys none = none-right name xs ys none.1

-- one that is none of either is none of both
none-both : (name : List ℕ) (xs ys : List (List ℕ)) → IsNoneOf name xs → IsNoneOf name ys → IsNoneOf name (xs ++ ys)
none-both name [] ys left right = right
none-both name (x ∷ xs) ys left right = (left.0, none-both name xs ys left.1 right)

-- an error of a name of the first list is one of a name of both
pub first-known : {A E : Type 0} (r : Result (Option A) E) (name : List ℕ) (xs ys : List (List ℕ))
    → ¬ (IsNoneOf name xs) → IfErr r (λ e. ¬ (IsNoneOf name (xs ++ ys)))
first-known = search (rules, none-left)

-- and so is one of a name of the second
pub rest-known : {A E : Type 0} (r : Result (Option A) E) (name : List ℕ) (xs ys : List (List ℕ))
    → IfErr r (λ e. ¬ (IsNoneOf name ys)) → IfErr r (λ e. ¬ (IsNoneOf name (xs ++ ys)))
rest-known = search (rules, none-right)

-- if the first list lacks the name, what holds of the second list holds of both
pub rest-none : {A E : Type 0} (r : Result (Option A) E) (name : List ℕ) (xs ys : List (List ℕ))
    → IsNoneOf name xs → IfOk r (λ found. IsNone found ↔ IsNoneOf name ys)
    → IfOk r (λ found. IsNone found ↔ IsNoneOf name (xs ++ ys))
rest-none = search (rules, none-both, none-right)

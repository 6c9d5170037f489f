-- The matches of a front, taken in order.
use Rattle.nfa_pikevm_scan.proofs.Common.{AreMatchPairs, Automaton, Bool, EndsInMatch, Frontier, In, List, Load, Moment, NoMatch, None, Pair, PatternID, Search, Slots, Some, StatesGive, Takes, [], ap, arith, before_match, both_ways, edges, ends, false, false_from_ne_true, first_match, inl, inr, is_match, map, moves, node_at, none, number_of, pattern_of, plain, refl, subst, sym, taken, tasks, true, ℕ, ◌++◌, ◌∙◌, ◌∷◌, ◌≡◌}
use Rattle.nfa_paths.proofs.StartLemmas.{IsMatch-edges}
use Rattle.nfa_pikevm_scan.proofs.FrontierLemmas.{moves-one}

-- a front with no match has no first one
pub first-none : (test : Pair → Bool) (front : Frontier) → NoMatch test front → first_match test front ≡ None
first-none test [] off = refl
first-none test (a ∷ front) off = grind (arith, first-none test front)

module _ {V : Type 0} {nfa : Automaton} {takes : V → PatternID → Slots → Bool → V → Type 0} where
  -- one front after another
  pub Takes-then : {front more : Frontier} {u v w : V} {ended : Bool} → Takes nfa takes front u false v
      → Takes nfa takes more v ended w → Takes nfa takes (front ++ more) u ended w
  Takes-then none t = t
  Takes-then (plain off f) t = plain off (Takes-then f t)
  Takes-then (taken p is k f) t = taken p is k (Takes-then f t)

  -- a front with no match
  pub Takes-none : (front : Frontier) (v : V) → NoMatch (is_match nfa) front → Takes nfa takes front v false v
  Takes-none [] v off = none
  Takes-none (a ∷ front) v off = plain (false_from_ne_true (is_match nfa a.0) (off a (inl refl)))
      (Takes-none front v (λ b i. off b (inr i)))

  -- one match
  takes-one : {a : Pair × Slots} {v w : V} (ended : Bool) (pattern : PatternID)
      → pattern_of (node_at nfa a.0.0) ≡ Some (number_of pattern) → takes v pattern a.1 ended w
      → Takes nfa takes (a ∷ []) v ended w
  takes-one true pattern is t = ends pattern is t
  takes-one false pattern is t = taken pattern is t none

  -- a front that ends with a match
  pub Takes-match : {at : ℕ} {slots : Slots} {front : Frontier} {v w : V} {result : Bool} (pattern : PatternID)
      (ended : Bool) → result ≡ ended → EndsInMatch nfa at slots (Some pattern) front → takes v pattern slots result w
      → Takes nfa takes front v ended w
  Takes-match {v = v} {w} pattern ended same e t =
      subst (λ f. Takes nfa takes f v ended w) (sym e.3)
      (Takes-then (Takes-none e.0 v e.2) (takes-one ended pattern e.4 (rw same at t)))

-- If the position ends with each pair of a test, nothing is kept after the first one, which leads nowhere. `Keeps` is
-- what the sink keeps.
module _ {V : Type 0} {nfa : Automaton} {takes : V → PatternID → Slots → Bool → V → Type 0} {at : ℕ}
    {test : Pair → Bool} (sub : AreMatchPairs nfa test) (Keeps : V → Type 0)
    (stops : (v w : V) (a : Pair × Slots) (p : PatternID) (ended : Bool) → Keeps v → a.0.1 ≡ at
    → pattern_of (node_at nfa a.0.0) ≡ Some (number_of p) → takes v p a.1 ended w → Keeps w × (ended ≡ test a.0))
    (x : Search) where
  pub Takes-cut : {front : Frontier} {v w : V} {ended : Bool} → Keeps v → ((a : Pair × Slots) → In a front → a.0.1 ≡ at)
      → Takes nfa takes front v ended w → moves (edges nfa x) (before_match test front) ≡ moves (edges nfa x) front
  Takes-cut k here none = refl
  Takes-cut k here (plain {a = a} apart t) =
      rw (false_from_ne_true (test a.0) (λ on. both_ways (is_match nfa a.0) apart (sub a.0 on)))
      (ap (λ l. map (λ v. (v.0, a.1)) (edges nfa x a.0) ++ l) (Takes-cut k (λ b i. here b (inr i)) t))
  Takes-cut k here (taken {a = a} p is h t) =
      let e = stops _ _ a p false k (here a (inl refl)) is h in
      rw (← e.1) (ap (λ l. map (λ v. (v.0, a.1)) (edges nfa x a.0) ++ l) (Takes-cut e.0 (λ b i. here b (inr i)) t))
  Takes-cut k here (ends {a = a} p is h) =
      rw (← (stops _ _ a p true k (here a (inl refl)) is h).1)
      (sym (moves-one (edges nfa x) a.0 a.1 [] (IsMatch-edges nfa x a.0 (rw is refl))))

-- all states of a position, if it goes on in fewer cases, whatever the slots
pub StatesGive-if : {nfa : Automaton} {x : Search} {at : ℕ} {a b : Moment} {goes fewer : Type 0}
    {left : List (ℕ × Slots)} {front : Frontier} (slots written : Slots) → (fewer → goes) → (fewer → left ≡ [])
    → StatesGive nfa x at a goes left front b
    → StatesGive nfa x at (record a { slots = slots }) fewer [] front (record b { slots = written })
StatesGive-if {at = at} slots written goes_on over g = record {
  added = g.added;
  formed = g.formed;
  paid = record { tried = omega (arith, g.paid.tried); framed = g.paid.framed; entered = g.paid.entered };
  leads = λ current below waiting.
      let l = g.leads current below waiting in
      record {
        left = l.left;
        written = l.written;
        follows = l.follows;
        whole = λ on. l.whole (goes_on on) ∙ ap (λ items. tasks at items (Load below ∷ waiting)) (over on);
      };
}

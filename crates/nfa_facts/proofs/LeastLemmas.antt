-- Each accepting path has at least the bytes that the numbers of its states say.
use Rattle.nfa_paths.proofs.Common.{◌≡◌, ◌∙◌, ℕ, suc, ◌+◌, ◌<◌, ◌≤◌, List, [], ◌∷◌, length, map, inl, inr, get_or, refl, sym, subst, arith, All, Option, None, Some, Bool, true, false, IfSome, if◌then◌else◌, slice_get_within, get_or_from_slice_get, ap, get_or-map, get_or_default, length-map, is_some, Search, Automaton, IsAutomaton, LeadsBelow, Node, Pair, Transition, In, HeadIs, Linked, EndsWith, Dense, Fail, Sparse, edges, edges_of, epsilon_states, first_target, holding_at, holds_byte, node_at, node_of, pattern_of, IsMatch, cases_lt}
use Rattle.thompson_nfa.specs.declared.state.State.{State}
use Rattle.nfa_paths.proofs.FirstStartLemmas.{start-anchored}
use Rattle.nfa_paths.proofs.MemberLemmas.{All-In, same_some}
use Rattle.nfa_paths.proofs.StartLemmas.{byte_at-within, epsilon-all}
use Rattle.nfa_paths.proofs.EdgeLemmas.{edge-is}
use Rattle.nfa_engines.specs.Laws.{MatchesNothing}
use Rattle.nfa_engines.specs.StartLaws.{anchored_at, IsUnbound}
use Rattle.nfa_engines.proofs.StartAnswerLemmas.{nothing-of}
use Rattle.nfa_facts.specs.LeastLengths.{AreLeastLengths, HasLeast, IsLeastOf}
use Rattle.nfa_facts.proofs.ReachedLemmas.{dense-get}
use Rattle.std.proofs.lemmas.List.{get_or_past}

-- paths

module _ (nfa : Automaton) (x : Search) (lengths : List ℕ) where
  -- the pair is in the span, and its number has the bytes that are left of this one
  record StepsTo (n at : ℕ) (w : Pair) : Type 0 where
    within : at ≤ x.end → w.1 ≤ x.end
    least : at + n ≤ w.1 + get_or lengths w.0 0

  edge-step : (node : Node) (at n : ℕ) (w : Pair) → IsLeastOf lengths node n → In w (edges_of x node at)
      → StepsTo n at w
  edge-step node at n w h i =
      elim (edge-is x node at w i) [
        | inl stays ↦
            let states = epsilon_states (holding_at x.haystack at) node in
            let all = epsilon-all (λ s. n ≤ get_or lengths s 0) (holding_at x.haystack at) node h.without in
            let least : n ≤ get_or lengths w.0 0 = All-In (λ s. n ≤ get_or lengths s 0) states all w.0 stays.1 in
            let same : w.1 ≡ at = stays.0 in
            record { within = λ low. omega (arith, same); least = omega arith }
        | inr over ↦
            let next : w.1 ≡ at + 1 = over.next in
            let inside : at < x.end = byte_at-within x at over.byte over.is in
            let one : n ≤ get_or lengths w.0 0 + 1 = h.over over.byte w.0 over.target in
            record { within = λ low. omega (arith, next, inside); least = omega arith }
      ]

  -- the span has the bytes of the first state of each path to a match
  path-fits : AreLeastLengths nfa lengths → (s at : ℕ) (end : Pair) (p : List Pair) → HeadIs (s, at) p
      → Linked (edges nfa x) p → EndsWith end p → IsMatch nfa end → at ≤ x.end → at + get_or lengths s 0 ≤ x.end
  path-fits all s at end [] head linked ends accepts within = absurd head
  path-fits all s at end (v ∷ []) head linked ends accepts within =
      let same : end ≡ (s, at) = sym ends ∙ head in
      let is : is_some (pattern_of (node_at nfa s)) ≡ true = subst (λ (z : Pair). IsMatch nfa z) same accepts in
      let none : get_or lengths s 0 ≡ 0 = (all.each s).ends is in
      omega arith
  path-fits all s at end (v ∷ (w ∷ p)) head linked ends accepts within =
      let step = edge-step (node_at nfa s) at (get_or lengths s 0) w (all.each s)
      (subst (λ (z : Pair). In w (edges nfa x z)) head linked.0) in
      let later = path-fits all w.0 w.1 end (w ∷ p) refl linked.1 ends accepts (step.within within) in
      let least : at + get_or lengths s 0 ≤ w.1 + get_or lengths w.0 0 = step.least in
      omega arith

-- so each match has the bytes of the anchored start
pub HasLeast-of : (nfa : Automaton) (lengths : List ℕ) → AreLeastLengths nfa lengths
    → HasLeast nfa (get_or lengths nfa.anchored 0)
HasLeast-of nfa lengths all = record {
  fits = λ x at some.
      let start = start-anchored nfa x at some.path.start some.path.among in
      let head : HeadIs (nfa.anchored, at) some.along =
      subst (λ (z : Pair). HeadIs z some.along) start.is some.path.head in
      path-fits nfa (anchored_at x at) lengths all nfa.anchored at some.end some.along head some.path.linked
      some.path.ends some.accepts start.within;
}

-- so none is in a span with fewer bytes
pub nothing-in-fewer : (nfa : Automaton) (x : Search) (least : ℕ) → IsUnbound nfa x → HasLeast nfa least
    → x.end < x.start + least → MatchesNothing nfa x
nothing-in-fewer nfa x least free has fewer =
    nothing-of nfa x free
    (λ i start. record {
      no_path = λ m p w t.
          let fits : i + least ≤ x.end =
          has.fits x i (record { end = m; along = p; path = w; accepts = t }) in
          absurd (omega arith);
    })

-- and 0 bytes at least
pub HasLeast-none : (nfa : Automaton) → HasLeast nfa 0
HasLeast-none nfa = record {
  fits = λ x at some. omega (arith, (start-anchored nfa x at some.path.start some.path.among).within);
}

-- lists of numbers

-- a lower number
pub IsLeastOf-fewer : {a : List ℕ} {node : Node} {m n : ℕ} → m ≤ n → IsLeastOf a node n → IsLeastOf a node m
IsLeastOf-fewer few h = record {
  ends = λ is. omega (arith, h.ends is, few);
  without = λ k d less. omega (arith, h.without k d less, few);
  over = λ b t e. omega (arith, h.over b t e, few);
}

-- beyond the states each number is 0
pub AreLeastLengths-all : (nfa : Automaton) (a : List ℕ) → length a ≡ length nfa.states
    → ((s : ℕ) → s < length nfa.states → IsLeastOf a (node_at nfa s) (get_or a s 0)) → AreLeastLengths nfa a
AreLeastLengths-all nfa a size all = record {
  size = size;
  each = λ s.
      elim (cases_lt s (length nfa.states)) [
        | inl less ↦ all s less
        | inr past ↦ subst (IsLeastOf a (node_at nfa s)) (sym (get_or_past a s 0 (omega (arith, size, past)))) none
      ];
}
  where
    none : {node : Node} → IsLeastOf a node 0
    none = record { ends = λ is. refl; without = λ k d less. omega arith; over = λ b t e. omega arith }

-- numbers of states

module _ (a : List ℕ) (m : ℕ) where
  first-least : (n : ℕ) (ts : List Transition) → All (λ t. n ≤ get_or a t.next 0) ts → (b u : ℕ)
      → first_target ts b ≡ Some u → n ≤ get_or a u 0
  first-least n [] all b u e = absurd (cc e)
  first-least n (t ∷ ts) all b u e =
      of (holds_byte t b) (first-least n ts (λ k d less. all (suc k) d (omega arith)) b u) e
    where
      here : n ≤ get_or a t.next 0
      here = all 0 t (omega arith)

      of : (h : Bool) → (first_target ts b ≡ Some u → n ≤ get_or a u 0)
          → (if h then Some t.next else first_target ts b) ≡ Some u → n ≤ get_or a u 0
      of true later e = subst (λ s. n ≤ get_or a s 0) (same_some t.next u e) here
      of false later e = later e

  pub least-sparse : (n : ℕ) (ts : List Transition) → All (λ t. n ≤ get_or a t.next 0) ts → m ≤ n + 1
      → IsLeastOf a (Sparse ts) m
  least-sparse n ts all one = record {
    ends = λ is. absurd (cc is);
    without = λ k d less. absurd (omega arith);
    over = λ b u e. omega (arith, first-least n ts all b u e);
  }

  pub least-dense : (n : ℕ) (targets : List (Option ℕ)) → All (λ o. IfSome o (λ s. n ≤ get_or a s 0)) targets
      → m ≤ n + 1 → IsLeastOf a (Dense targets) m
  least-dense n targets all one = record {
    ends = λ is. absurd (cc is);
    without = λ k d less. absurd (omega arith);
    over = λ b u e.
        let there = dense-get targets b u e in
        let some = all b None (slice_get_within targets b (Some u) there) in
        let least : n ≤ get_or a u 0 =
        subst (λ o. IfSome o (λ s. n ≤ get_or a s 0)) (get_or_from_slice_get targets b (Some u) None there) some in
        omega arith;
  }

-- states of an NFA

module _ (nfa : Automaton) (states : List State) (nodes : map node_of states ≡ nfa.states) (i : ℕ) (s : State)
    (inside : i < length states) (is : s ≡ get_or states i s) where
  of-map : get_or nfa.states i (node_of s) ≡ node_of s
  of-map =
      subst (λ l. get_or l i (node_of s) ≡ node_of s) nodes
      (get_or-map node_of states i s (node_of s) inside ∙ ap node_of (sym is))

  below : i < length nfa.states
  below = omega (arith, ap length nodes, length-map states node_of)

  pub node-of : node_at nfa i ≡ node_of s
  unfolding node_at
  node-of = get_or_default nfa.states i Fail (node_of s) below ∙ of-map

  pub leads-below : IsAutomaton nfa → (n : ℕ) → n ≡ length nfa.states → LeadsBelow n (node_of s)
  leads-below valid n all =
      rw all (subst (LeadsBelow (length nfa.states)) of-map (valid.numbered.targets_in i (node_of s) below))

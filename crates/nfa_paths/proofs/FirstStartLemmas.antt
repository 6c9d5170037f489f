-- The paths of an unanchored search are those of the anchored searches at each start, and begin with the byte there.
use Rattle.nfa_paths.proofs.Common.{Bool, true, false, ◌==◌, ◌||◌, None, Some, ◌≡◌, ℕ, zero, suc, ◌+◌, ◌-◌, ◌≤◌, ◌<◌, ◌⊎◌, inl, inr, List, [], ◌∷◌, refl, sym, ◌∙◌, subst, arith, option_map_or, cases_Bool, nat_tests, is_anchored, start_count, start_state, Search, Anchored, Automaton, Pair, In, EndsWith, HeadIs, Linked, ComesBefore, PathTo, edges, pairs_from, starts, cases_lt, Yes}
use Rattle.nfa_paths.proofs.MemberLemmas.{same_some}
use Rattle.nfa_paths.proofs.PathToLemmas.{EndsWith-last}
use Rattle.nfa_paths.proofs.ScanAnswerLemmas.{edges-onward, edges-within, starts-within}
use Rattle.nfa_paths.proofs.StartLemmas.{edges-alike, pairs_from-has}
use Rattle.nfa_paths.specs.Starts.{anchored_at, from_start, IsUnbound, IsFirstStart, MatchesNothing, NothingAtByte, StartIsFirst}

-- the search from another start, anchored or not
abbrev pub begun : Search → ℕ → Anchored → Search
begun x s anchored = record x { start = s; anchored = anchored }

-- it has the same edges
pub same_edges : (nfa : Automaton) (x : Search) (s : ℕ) (anchored : Anchored)
    → edges nfa (begun x s anchored) ≡ edges nfa x
same_edges nfa x s anchored = edges-alike nfa (begun x s anchored) x refl refl

-- the pairs of a state from a position on
pub record IsPairFrom (state at count : ℕ) (v : Pair) : Type 0 where
  pub state_is : v.0 ≡ state
  pub from : at ≤ v.1
  pub before : v.1 < at + count

pub pairs_from-in : (state at count : ℕ) (v : Pair) → In v (pairs_from state at count) → IsPairFrom state at count v
pairs_from-in state at zero v i = absurd i
pairs_from-in state at (suc count) v i = grind (arith, pairs_from-in state (at + 1) count v)

-- a list has one first pair
pub heads-one : (v w : Pair) (p : List Pair) → HeadIs v p → HeadIs w p → v ≡ w
heads-one = grind arith

-- and one last pair
pub ends-one : (m n : Pair) (p : List Pair) → EndsWith m p → EndsWith n p → m ≡ n
ends-one m n p e d = same_some m n (sym (EndsWith-last None m p e) ∙ EndsWith-last None n p d)

-- of two lists that begin with these pairs, the first that comes first starts not after the other
pub heads-order : (edges : Pair → List Pair) (start other : Pair) (p q : List Pair) → HeadIs start p → HeadIs other q
    → (q ≡ p) ⊎ ComesBefore edges p q → start.1 ≤ other.1
heads-order = grind arith

-- a list that starts at a smaller position comes first
pub heads-less : (edges : Pair → List Pair) (start other : Pair) (p q : List Pair) → HeadIs start p → HeadIs other q
    → start.1 < other.1 → ComesBefore edges p q
heads-less = grind arith

-- a list with a head, after a pair that leads to it, is linked
pub put-linked : (edges : Pair → List Pair) (v w : Pair) (p : List Pair) → In w (edges v) → HeadIs w p → Linked edges p
    → Linked edges (v ∷ p)
put-linked = grind arith

-- a path of a graph is one of each graph that has its edges and its start
pub with-edges : {edges others : Pair → List Pair} {starts begins : List Pair} {m : Pair} {p : List Pair}
    → (w : PathTo edges starts m p) → Linked others p → In w.start begins → PathTo others begins m p
with-edges w linked among = grind arith

pub with-starts : {edges : Pair → List Pair} {starts others : List Pair} {m : Pair} {p : List Pair}
    → (w : PathTo edges starts m p) → In w.start others → PathTo edges others m p
with-starts w = with-edges w w.linked

module _ (nfa : Automaton) (x : Search) where
  -- a path ends at its start or after it, and within the span if it starts there
  pub path-order : (v m : Pair) (p : List Pair) → HeadIs v p → Linked (edges nfa x) p → EndsWith m p
      → (v.1 ≤ m.1) × (v.1 ≤ x.end → m.1 ≤ x.end)
  path-order v m [] head linked ends = absurd head
  path-order v m (a ∷ []) head linked ends = grind arith
  path-order v m (a ∷ (b ∷ p)) head linked ends =
      let rest = path-order b m (b ∷ p) refl linked.1 ends in
      grind (arith, edges-onward nfa x a b linked.0, edges-within nfa x a b linked.0, rest)

-- the starts of a search

-- the search or the NFA is anchored
abbrev pub is_tied : Automaton → Anchored → Bool
is_tied nfa anchored = is_anchored anchored || nfa.anchored == nfa.unanchored

module _ (nfa : Automaton) (x : Search) where
  -- A start has the state of the anchoring and lies in the span. It is at the start of the span if it is the only one.
  pub record StartOf (v : Pair) : Type 0 where
    pub state_is : start_state nfa x.anchored ≡ Some v.0
    pub from : x.start ≤ v.1
    pub within : v.1 ≤ x.end
    pub tied : is_tied nfa x.anchored ≡ true → v.1 ≡ x.start

  count-tied : x.start ≤ x.end → is_tied nfa x.anchored ≡ true → start_count nfa x ≡ 1
  count-tied within t = grind (arith, nat_tests)

  count-free : x.start ≤ x.end → is_tied nfa x.anchored ≡ false → start_count nfa x ≡ x.end - x.start + 1
  count-free within f = grind (arith, nat_tests)

  pub start-of : (v : Pair) → In v (starts nfa x) → StartOf v
  start-of v i = grind (arith, nat_tests, pairs_from-in, starts-within)

  pub of-start : (v : Pair) → StartOf v → In v (starts nfa x)
  of-start v h =
      subst (λ o. In v (option_map_or (λ state. pairs_from state x.start (start_count nfa x)) o [])) (sym h.state_is)
      (pairs_from-has v.0 x.start (start_count nfa x) v.1 h.from
      (elim (cases_Bool (is_tied nfa x.anchored)) [
        | inl t ↦ least (start_count nfa x) (h.tied t) (count-tied (omega (arith, h.from, h.within)) t)
        | inr f ↦ most (start_count nfa x) h.within (count-free (omega (arith, h.from, h.within)) f)
      ]))
    where
      least : (n : ℕ) → v.1 ≡ x.start → n ≡ 1 → v.1 < x.start + n
      least n at is = omega arith

      most : (n : ℕ) → v.1 ≤ x.end → n ≡ x.end - x.start + 1 → v.1 < x.start + n
      most n within is = omega arith

module _ (nfa : Automaton) (x : Search) where
  -- a path of an anchored search starts there, within the span
  pub record StartsAt (s : ℕ) (v : Pair) : Type 0 where
    pub is : v ≡ (nfa.anchored, s)
    pub within : s ≤ x.end

  pub start-anchored : (s : ℕ) (v : Pair) → In v (starts nfa (anchored_at x s)) → StartsAt s v
  start-anchored s v i = grind (arith, start-of nfa (anchored_at x s) v i, same_some)

  pub anchored-start : (s : ℕ) (v : Pair) → v ≡ (nfa.anchored, s) → s ≤ x.end → In v (starts nfa (anchored_at x s))
  anchored-start s v e within = grind (arith, of-start)

  module _ (free : IsUnbound nfa x) where
    pub record StartsFrom (s : ℕ) (v : Pair) : Type 0 where
      pub state_is : v.0 ≡ nfa.anchored
      pub from : s ≤ v.1
      pub within : v.1 ≤ x.end

    pub start-unanchored : (s : ℕ) (v : Pair) → In v (starts nfa (from_start x s)) → StartsFrom s v
    start-unanchored s v i = grind (arith, start-of nfa (from_start x s) v i, same_some)

    pub unanchored-start : (s : ℕ) (v : Pair) → StartsFrom s v → In v (starts nfa (from_start x s))
    unanchored-start s v h = grind (arith, of-start nfa (from_start x s) v)

pub nothing-at-byte : NothingAtByte
nothing-at-byte nfa x i byte none read = record {
  no_path = λ m p w t.
      none.no_path (anchored_at x i) i read m p (with-starts w (inl (start-anchored nfa x i w.start w.among).is)) t;
}

pub start-first : StartIsFirst
start-first nfa x = grind arith

-- if nothing matches at a start before which nothing does, the next position is one, too
pub next-first : (nfa : Automaton) (x : Search) (s : ℕ) → IsFirstStart nfa x s → MatchesNothing nfa (anchored_at x s)
    → IsFirstStart nfa x (s + 1)
next-first nfa x s first none =
    let low : x.start ≤ s = first.from in
    record {
      from = omega arith;
      nothing = λ i from less.
          elim (cases_lt i s) [
            | inl before ↦ first.nothing i from before
            | inr past ↦ let here : i ≡ s = omega arith in rw here none
          ];
    }

module _ (nfa : Automaton) (x : Search) (bound : x.anchored ≡ Yes) where
  -- the one start of an anchored search of an NFA
  pub start-there : (n : Automaton) (v : Pair) → In v (starts n x) → StartsAt n x x.start v
  start-there n v i = grind (arith, start-anchored)

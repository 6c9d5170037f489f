-- What the front of a position leads on to, and what it costs.
use Rattle.std.proofs.Math.Nat.{mul-le-mul_right}
use Rattle.nfa_paths.proofs.MemberLemmas.{All-In, option_or-assoc}
use Rattle.nfa_paths.proofs.ScanAnswerLemmas.{edges-rise}
use Rattle.nfa_paths.proofs.StartLemmas.{byte_at-within, byte_pairs, resting-capture, resting-edges}
use Rattle.nfa_paths.proofs.TurnLemmas.{marked_sum-le}
use Rattle.nfa_scan_core.proofs.TargetLemmas.{target-below}
use Rattle.nfa_pikevm_scan.proofs.Common.{All, All-cons, All-nil, AreAt, Automaton, Bool, Fail, Formed, Frontier, Hit, In, LeadsBelow, List, Marks, Node, None, Option, Paid, Pair, Search, Slots, Some, [], ap, append-nil, arith, between, byte_at, capture, degree, edges, edges_of, inl, inr, is_resting, last_match, length, map, max_scan_turns, moves, node_at, option_and_then, option_or, option_to_list, refl, rests, span_len, sum-map, sum_by, sum_by-cons, target_on, total_degree, true, unmarked, ℕ, ◌*◌, ◌+◌, ◌-◌, ◌<◌, ◌∙◌, ◌∷◌, ◌≡◌, ◌≤◌, ◌⊎◌}

-- the edges of a resting state, by what it reads

module _ (x : Search) (at : ℕ) (slots : Slots) where
  -- the edges that a byte gives a state, in memory
  moves-target : (node : Node) (byte : Option ℕ) → map {B = ℕ × Slots} (λ v. (v.0, slots)) (byte_pairs node at byte)
      ≡ map (λ t. (t, slots)) (option_to_list (option_and_then (target_on node) byte))
  moves-target node byte = grind arith

  -- a resting state leads to where its byte leads
  pub edges-move : (node : Node) → rests node ≡ true
      → map {B = ℕ × Slots} (λ v. (v.0, slots)) (edges_of x node at)
      ≡ map (λ t. (t, slots)) (option_to_list (option_and_then (target_on node) (byte_at x at)))
  edges-move node r = grind (arith, resting-edges, moves-target)

-- the moves of one pair in memory
pub moves-one : (edges : Pair → List Pair) (v : Pair) (slots : Slots) (es : List Pair) → edges v ≡ es
    → moves edges ((v, slots) ∷ []) ≡ map (λ u. (u.0, slots)) es
moves-one edges v slots es e = append-nil (map (λ u. (u.0, slots)) (edges v)) ∙ ap (map (λ u. (u.0, slots))) e

-- what a front leads on to

-- none, or one of a state of the NFA at the next position
abbrev LeadsToOne : Search → Node → ℕ → List Pair → Type 0
LeadsToOne x node p es = (es ≡ []) ⊎ ((t : ℕ) × (es ≡ (t, p + 1) ∷ [])
    × ((n : ℕ) → LeadsBelow n node → t < n) × (p < x.end))

byte-leads : (x : Search) (node : Node) (p : ℕ) (byte : Option ℕ) → ((b : ℕ) → byte ≡ Some b → p < x.end)
    → LeadsToOne x node p (byte_pairs node p byte)
byte-leads x node p byte within = grind (arith, target-below)

-- a state that rests
rests-leads : (x : Search) (node : Node) (p : ℕ) → rests node ≡ true → LeadsToOne x node p (edges_of x node p)
rests-leads x node p r = rw (resting-edges x node p r) (byte-leads x node p (byte_at x p) (byte_at-within x p))

-- a state of the NFA leads to its states
node-leads : (nfa : Automaton) (s : ℕ) → s < length nfa.states → All (LeadsBelow (length nfa.states)) nfa.states
    → LeadsBelow (length nfa.states) (node_at nfa s)
unfolding node_at
node-leads nfa s h leads = leads s Fail h

-- no pair
pub Formed-none : (nfa : Automaton) (at : ℕ) (bits : List Bool) → Formed nfa at bits []
Formed-none nfa at bits = grind arith

module _ (nfa : Automaton) (x : Search) (at : ℕ) (bits : List Bool) where
  pub Formed-resting : (front : Frontier) → Formed nfa at bits front → (a : Pair × Slots) → In a front
      → (is_resting nfa a.0 ≡ true) × (a.0.1 ≡ at)
  Formed-resting front f a i = (
    All-In (λ (b : Pair × Slots). rests (node_at nfa b.0.0) ≡ true) front f.resting a i,
    All-In (λ (b : Pair × Slots). b.0.1 ≡ at) front f.here a i,
  )

  -- it writes nothing, and leads to later positions
  pub Formed-rests : (front : Frontier) → Formed nfa at bits front → (a : Pair × Slots) → In a front
      → (capture nfa a.0 ≡ None) × (a.0.1 ≡ at) × ((w : Pair) → In w (edges nfa x a.0) → at < w.1)
  Formed-rests front f a i =
      let r = Formed-resting front f a i in (
        resting-capture nfa a.0 r.0,
        r.1,
        λ w j. let k : a.0.1 < w.1 = edges-rise nfa x a.0 w r.0 j in let here : a.0.1 ≡ at = r.1 in omega arith,
      )

  -- each pair of it leads to one state or none
  Formed-one : (front : Frontier) → Formed nfa at bits front → (a : Pair × Slots) → In a front
      → LeadsToOne x (node_at nfa a.0.0) at (edges nfa x a.0)
  Formed-one front f a i = grind (arith, Formed-resting, rests-leads)

  pub Formed-next : (front : Frontier) → Formed nfa at bits front → (a : Pair × Slots) → In a front
      → (edges nfa x a.0 ≡ []) ⊎ ((t : ℕ) × (edges nfa x a.0 ≡ (t, at + 1) ∷ []))
  Formed-next front f a i = grind (arith, Formed-one front f a i)

  -- the states that it leads on to are the NFA's
  pub Formed-below : All (LeadsBelow (length nfa.states)) nfa.states → (front : Frontier) → Formed nfa at bits front
      → All (λ i. i.0 < length nfa.states) (moves (edges nfa x) front)
  Formed-below leads front f =
      of front (Formed-one front f) (λ a i. node-leads nfa a.0.0
      (All-In (λ (b : Pair × Slots). b.0.0 < length nfa.states) front f.states a i) leads)
    where
      of : (ys : Frontier) → ((a : Pair × Slots) → In a ys → LeadsToOne x (node_at nfa a.0.0) at (edges nfa x a.0))
          → ((a : Pair × Slots) → In a ys → LeadsBelow (length nfa.states) (node_at nfa a.0.0))
          → All (λ i. i.0 < length nfa.states) (moves (edges nfa x) ys)
      of [] one below = All-nil (λ (i : ℕ × Slots). i.0 < length nfa.states)
      of (a ∷ ys) one below =
          let rest = of ys (λ b i. one b (inr i)) (λ b i. below b (inr i)) in
          elim (one a (inl refl)) [
            | inl none ↦ rw none rest
            | inr some ↦ rw some.1 (All-cons (λ (i : ℕ × Slots). i.0 < length nfa.states) (some.0, a.1)
                (moves (edges nfa x) ys) (some.2 (length nfa.states) (below a (inl refl))) rest)
          ]

  -- if no byte is left, it leads nowhere
  pub Formed-over : x.end ≤ at → (front : Frontier) → Formed nfa at bits front → moves (edges nfa x) front ≡ []
  Formed-over past front f = of front (Formed-one front f)
    where
      of : (ys : Frontier) → ((a : Pair × Slots) → In a ys → LeadsToOne x (node_at nfa a.0.0) at (edges nfa x a.0))
          → moves (edges nfa x) ys ≡ []
      of [] one = refl
      of (a ∷ ys) one = grind (arith, one a (inl refl), of ys (λ b i. one b (inr i)))

-- the last match pair, or what was found before
pub last_match-or : (target : Pair → Bool) (g : Hit) (front : Frontier)
    → last_match target g front ≡ option_or (last_match target None front) g
last_match-or target g [] = refl
last_match-or target g (a ∷ front) =
    grind (arith, option_or-assoc, last_match-or target (Some a) front, last_match-or target g front)

-- turns

-- one more position pays for what it takes, if at most one start joined
pub paid-next : (before turns items hand after more n w : ℕ) → turns + items ≤ before + n * (1 + w) → hand ≤ items + 1
    → after + more ≤ turns + hand + w → after + more ≤ before + (n + 1) * (1 + w)
paid-next before turns items hand after more n w paid one takes = omega arith

-- positions that are passed over cost nothing
pub paid-later : (before spent each : ℕ) {n m : ℕ} → n ≤ m → spent ≤ before + n * each → spent ≤ before + m * each
paid-later before spent each le paid = let more = mul-le-mul_right each le in omega arith

pub sum-ones : (states : List Node) → sum_by (λ node. 1) states ≡ length states
sum-ones [] = refl
sum-ones (s ∷ states) = omega (arith, sum_by-cons (λ (node : Node). 1) s states, sum-ones states)

module _ (nfa : Automaton) (x : Search) where
  -- a position: it keeps no more states than the NFA has, and pays for what was left and what it takes
  module _ (met : Marks) (hand : ℕ) (after : Marks) (kept : List (ℕ × Slots))
      (p : Paid nfa (between (unmarked met) [] []) hand (between after kept []) 0) where
    pub Paid-few : length kept ≤ length nfa.states
    Paid-few = grind (arith, marked_sum-le, sum-map, sum-ones)

    pub Paid-next : after.turns + length kept ≤ met.turns + hand + total_degree nfa
    Paid-next = omega (arith, p.tried, marked_sum-le (map degree nfa.states) after.bits, sum-map degree nfa.states)

-- all positions
pub AreAt-turns : {nfa : Automaton} {x : Search} {at before turns : ℕ} {items : List (ℕ × Slots)} → at ≤ x.end + 1
    → x.start ≤ x.end → AreAt nfa x at before turns items → turns ≤ before + max_scan_turns nfa x
AreAt-turns {nfa} {x} {at} {before} {turns} {items} within span a =
    let few : at - x.start ≤ span_len x + 1 = omega arith in
    omega (arith, paid-later before (turns + length items) (1 + total_degree nfa) few a.paid)

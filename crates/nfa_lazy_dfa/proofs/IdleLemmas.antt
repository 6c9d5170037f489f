-- An accepting path goes through the states of each position after its start, as long as nothing was found.
use Rattle.nfa_paths.proofs.Common.{ℕ_discrete, ◌≡◌, ℕ, zero, suc, ◌+◌, ◌-◌, ◌<◌, ◌≤◌, ◌⊎◌, inl, inr, Bool, true, false, List, [], ◌∷◌, ◌++◌, length, map, replicate, get_or, set, refl, ap, sym, ◌∙◌, subst, arith, get_or-set_other, Option, None, Some, option_and_then, option_map, option_to_list, option_map_or, cases_lt, get_or-replicate, HalfFound, Search, MatchKind, Automaton, Pair, In, HeadIs, Linked, EndsWith, PathTo, rests, IsScanAnswer, path_half, pattern_of, IsMatch, node_at, byte_at, target_on, edges, pairs_from, start_count, start_state, starts, Holding, holding_at, epsilon_states, half_at}
use Rattle.nfa_paths.proofs.MemberLemmas.{In-append_left, In-append_right, In-mapped}
use Rattle.nfa_paths.proofs.PathToLemmas.{EndsWith-last}
use Rattle.nfa_paths.proofs.AnswerLemmas.{scan_answer-leads}
use Rattle.nfa_paths.proofs.ScanAnswerLemmas.{edges-onward, starts-from}
use Rattle.nfa_lazy_dfa.specs.Closures.{closure, step, kept, pattern_by_kind, last_pattern}
use Rattle.nfa_lazy_dfa.specs.Configurations.{closure_at, found_after, scanned, start_here, scan_half, starts_after, IsIdle, StartsFrom}
use Rattle.nfa_lazy_dfa.proofs.AnswerLemmas.{scan-answered}
use Rattle.nfa_lazy_dfa.proofs.ExploreLemmas.{Explores, closure-explored, seen-itself, seen-still}
use Rattle.nfa_lazy_dfa.proofs.ExploreLemmas.Explores.{over, passes, keeps, opens}
use Rattle.nfa_lazy_dfa.proofs.PositionLemmas.{closed-rests}
use Rattle.nfa_paths.proofs.StartLemmas.{epsilon-edges}
use Rattle.nfa_lazy_dfa.proofs.FollowLemmas.{match-rests, past-edges, past-plain, rests-edges}
use Rattle.nfa_lazy_dfa.proofs.MatchLemmas.{NoneMatches, first-is}

-- a state is led to by each state of the list that leads there
step-among : (nfa : Automaton) (byte : Option ℕ) (t s : ℕ) (states : List ℕ) → In s states
    → In t (option_to_list (option_and_then (target_on (node_at nfa s)) byte)) → In t (step nfa byte states)
step-among nfa byte t s [] i j = absurd i
step-among nfa byte t s (u ∷ states) i j =
    grind (arith, In-append_left, In-append_right, step-among nfa byte t s states)

-- no pattern matches: no state is a Match, and each is kept
none-last : (nfa : Automaton) (states : List ℕ) → last_pattern nfa states ≡ None → NoneMatches nfa states
none-last nfa [] e = λ s i m. i
none-last nfa (s ∷ states) e = grind (arith, none-last nfa states)

record Plain (nfa : Automaton) (kind : MatchKind) (states : List ℕ) : Type 0 where
  plain : NoneMatches nfa states
  kept_is : kept nfa kind states ≡ states

plain-kept : (nfa : Automaton) (kind : MatchKind) (states : List ℕ) → pattern_by_kind nfa kind states ≡ None
    → Plain nfa kind states
plain-kept nfa kind states e = grind (arith, none-last, first-is nfa states)

-- What an exploration meets: all that was seen before, and the states that wait. Each that it meets first is kept, or
-- does not rest, and it meets all that it leads to.
record Meets (nfa : Automaton) (holding : Holding) (seen : List Bool) (waiting out : List ℕ) : Type 0 where
  after : List Bool
  grows : (t : ℕ) → get_or seen t true ≡ true → get_or after t true ≡ true
  waits : (t : ℕ) → In t waiting → get_or after t true ≡ true
  leads : (t : ℕ) → get_or seen t true ≡ false → get_or after t true ≡ true
      → In t out ⊎ ((rests (node_at nfa t) ≡ false)
      × ((u : ℕ) → In u (epsilon_states holding (node_at nfa t)) → get_or after u true ≡ true))

-- one state is met first
Meets-first : {nfa : Automaton} {holding : Holding} {seen : List Bool} {s : ℕ} {waiting more out next : List ℕ}
    → Meets nfa holding (set seen s true) more next → ((t : ℕ) → In t waiting → In t more)
    → ((t : ℕ) → In t next → In t out)
    → In s out ⊎ ((rests (node_at nfa s) ≡ false)
    × ((u : ℕ) → In u (epsilon_states holding (node_at nfa s)) → In u more))
    → Meets nfa holding seen (s ∷ waiting) out
Meets-first {seen = seen} {s} c among kept here = record {
  after = c.after;
  grows = λ t k. c.grows t (seen-still seen s t k);
  waits = λ t i. elim i [ inl e ↦ c.grows t (rw e (seen-itself seen s)) | inr j ↦ c.waits t (among t j) ];
  leads = λ t clear met.
      elim (ℕ_discrete t s) [
        | yes e ↦ rw e (elim here [ inl i ↦ inl i | inr on ↦ inr (on.0, λ u i. c.waits u (on.1 u i)) ])
        | no n ↦ elim (c.leads t (get_or-set_other seen s t true true n ∙ clear) met) [
          | inl i ↦ inl (kept t i)
          | inr on ↦ inr on
        ]
      ];
}

meets : {nfa : Automaton} {holding : Holding} {seen : List Bool} {waiting out : List ℕ}
    → Explores nfa holding seen waiting out → Meets nfa holding seen waiting out
meets (over {seen = seen}) =
    record { after = seen; grows = λ t k. k; waits = λ t i. absurd i; leads = λ t clear met. cc (clear, met) }
meets (passes {seen = seen} {s = s} k h) = let c = meets h in record {
  after = c.after;
  grows = c.grows;
  waits = λ t i. elim i [ inl e ↦ c.grows t (rw e k) | inr j ↦ c.waits t j ];
  leads = c.leads;
}
meets (keeps f r h) = Meets-first (meets h) (λ t i. i) (λ t i. inr i) (inl (inl refl))
meets {nfa} {holding} (opens {s = s} {waiting = waiting} f r h) =
    let next = epsilon_states holding (node_at nfa s) in
    Meets-first (meets h) (λ t i. In-append_right t next waiting i) (λ t i. i)
    (inr (r, λ u i. In-append_left u next waiting i))

module _ (nfa : Automaton) (x : Search) (m : Pair) where
  -- from v the list goes on to m
  record Way (v : Pair) (p : List Pair) : Type 0 where
    linked : Linked (edges nfa x) (v ∷ p)
    ends : EndsWith m (v ∷ p)

  -- one pair further, which is one of these states at the position
  way-next : (v w : Pair) (p : List Pair) (at : ℕ) (states : List ℕ) → Way v (w ∷ p)
      → edges nfa x v ≡ map (λ t. (t, at)) states → (t : ℕ) × In t states × Way (t, at) p
  way-next v w p at states h leads =
      let next = In-mapped (λ t. (t, at)) w states (rw leads at h.linked.0) in (
        next.0,
        next.1,
        subst (λ (u : Pair). Way u p) next.2 (record { linked = h.linked.1; ends = h.ends }),
      )

  -- a way goes through a state of the list at the position
  record Crosses (at : ℕ) (states : List ℕ) : Type 0 where
    state : ℕ
    among : In state states
    rest : List Pair
    way : Way (state, at) rest

  module _ (accepts : IsMatch nfa m) where
    -- each pair of the list has a state of the NFA
    way-inside : (v : Pair) (p : List Pair) → Way v p → v.0 < length nfa.states
    way-inside v [] h = grind (arith, past-plain nfa x v.1 v.0)
    way-inside v (w ∷ p) h = grind (arith, past-edges nfa x v.1 v.0)

    module _ (at : ℕ) {states out : List ℕ}
        (c : Meets nfa (holding_at x.haystack at) (replicate (length nfa.states) false) states out) where
      -- a way from a state that is met goes through one that is kept
      reaches : (s : ℕ) (p : List Pair) → get_or c.after s true ≡ true → Way (s, at) p → Crosses at out
      reaches s [] met h =
          elim (c.leads s (get_or-replicate (length nfa.states) s false true (way-inside (s, at) [] h)) met) [
            | inl i ↦ record { state = s; among = i; rest = []; way = h }
            | inr on ↦ cc (match-rests (node_at nfa s) (subst (IsMatch nfa) (sym h.ends) accepts), on.0)
          ]
      reaches s (w ∷ p) met h =
          elim (c.leads s (get_or-replicate (length nfa.states) s false true (way-inside (s, at) (w ∷ p) h)) met) [
            | inl i ↦ record { state = s; among = i; rest = w ∷ p; way = h }
            | inr on ↦
                let next = way-next (s, at) w p at (epsilon_states (holding_at x.haystack at) (node_at nfa s)) h
                (epsilon-edges x (node_at nfa s) at on.0) in
                reaches next.0 p (on.1 next.0 next.1) next.2
          ]

    -- so a way from one of the states goes through one of the closure
    closure-reaches : (at : ℕ) (states : List ℕ) (s : ℕ) (p : List Pair) → In s states → Way (s, at) p
        → Crosses at (closure nfa (holding_at x.haystack at) states)
    closure-reaches at states s p i h =
        let c = meets (closure-explored nfa (holding_at x.haystack at) states) in reaches at c s p (c.waits s i) h

    -- from a state that rests to the next position
    rests-cross : (at : ℕ) (here : List ℕ) → ((t : ℕ) → In t here → rests (node_at nfa t) ≡ true)
        → NoneMatches nfa here → Crosses at here → Crosses (at + 1) (step nfa (byte_at x at) here)
    rests-cross at here resting plain h = of h.rest h.way
      where
        of : (p : List Pair) → Way (h.state, at) p → Crosses (at + 1) (step nfa (byte_at x at) here)
        of [] w = absurd (plain h.state h.among (subst (IsMatch nfa) (sym w.ends) accepts))
        of (u ∷ p) w =
            let next = option_to_list (option_and_then (target_on (node_at nfa h.state)) (byte_at x at)) in
            let k = way-next (h.state, at) u p (at + 1) next w
            (rests-edges x at (node_at nfa h.state) (resting h.state h.among)) in
            record {
              state = k.0;
              among = step-among nfa (byte_at x at) k.0 h.state here h.among k.1;
              rest = p;
              way = k.2;
            }

  -- a path is a way from its start
  path-way : (s : Pair) (p : List Pair) → HeadIs s p → Linked (edges nfa x) p → EndsWith m p
      → (rest : List Pair) × Way s rest
  path-way s [] head linked ends = absurd head
  path-way s (v ∷ p) head linked ends =
      (p, subst (λ (u : Pair). Way u p) head (record { linked = linked; ends = ends }))

-- what was not found

found-none : (earliest : Bool) (found hit : Option HalfFound) → found_after earliest found hit ≡ None
    → (found ≡ None) × (hit ≡ None)
found-none earliest found hit e = grind arith

hit-none : (at : ℕ) (o : Option ℕ) → option_map (half_at at) o ≡ None → o ≡ None
hit-none at o e = grind arith

-- without a match one start less is left
starts-less : (kind : MatchKind) (count : ℕ) → starts_after kind None count ≡ count - 1
starts-less kind count = grind arith

-- a start that is listed
start-of : (state at count : ℕ) (d : Pair) → In d (pairs_from state at count)
    → (d.0 ≡ state) × (d.1 < at + length (pairs_from state at count))
start-of state at zero d i = absurd i
start-of state at (suc count) d i = grind (arith, start-of state (at + 1) count d)

module _ (nfa : Automaton) (x : Search) where
  start-before : (d : Pair) → In d (starts nfa x) → d.1 < x.start + length (starts nfa x)
  start-before d i = grind (arith, start-of)

  -- a start joins the states at its position
  start-joins : (d : Pair) (n k : ℕ) → In d (starts nfa x) → d.1 ≡ x.start + n → k ≡ length (starts nfa x) - n
      → In d.0 (start_here nfa x k)
  start-joins d n zero i at left =
      let less : d.1 < x.start + length (starts nfa x) = start-before d i in
      absurd (omega arith)
  start-joins d n (suc k) i at left = of (start_state nfa x.anchored) i
    where
      of : (o : Option ℕ) → In d (option_map_or (λ state. pairs_from state x.start (start_count nfa x)) o [])
          → In d.0 (option_to_list o)
      of None i = absurd i
      of (Some state) i = inl (start-of state x.start (start_count nfa x) d i).0

  module _ (kind : MatchKind) (earliest : Bool) where
    -- nothing was found up to a position, and so far
    record Missed (n : ℕ) : Type 0 where
      before : (scanned nfa x kind earliest n).found ≡ None
      pattern : pattern_by_kind nfa kind (closure_at nfa x (x.start + n) (scanned nfa x kind earliest n)) ≡ None

    missed : (n : ℕ) → (scanned nfa x kind earliest (suc n)).found ≡ None → Missed n
    missed n none = grind (arith, found-none, hit-none)

    starts-left : (n : ℕ) → (scanned nfa x kind earliest n).found ≡ None
        → (scanned nfa x kind earliest n).starts ≡ length (starts nfa x) - n
    starts-left zero none = omega arith
    starts-left (suc n) none = grind (arith, missed n, starts-left n, starts-less)

    module _ (m : Pair) (p : List Pair) (w : PathTo (edges nfa x) (starts nfa x) m p) (accepts : IsMatch nfa m) where
      -- the path goes through a state of the position, or starts there
      joined : (n : ℕ) → (scanned nfa x kind earliest n).found ≡ None → w.start.1 ≤ x.start + n
          → (w.start.1 < x.start + n → Crosses nfa x m (x.start + n) (scanned nfa x kind earliest n).states)
          → (let c = scanned nfa x kind earliest n in
          Crosses nfa x m (x.start + n) (c.states ++ start_here nfa x c.starts))
      joined n none low crosses =
          let c = scanned nfa x kind earliest n in
          let way = path-way nfa x m w.start p w.head w.linked w.ends in
          elim (cases_lt w.start.1 (x.start + n)) [
            | inl less ↦
                let h = crosses less in
                record {
                  state = h.state;
                  among = In-append_left h.state c.states (start_here nfa x c.starts) h.among;
                  rest = h.rest;
                  way = h.way;
                }
            | inr from ↦
                let at : w.start.1 ≡ x.start + n = omega arith in
                record {
                  state = w.start.0;
                  among = In-append_right w.start.0 c.states (start_here nfa x c.starts)
                      (start-joins w.start n c.starts w.among at (starts-left n none));
                  rest = way.0;
                  way = subst (λ (n : ℕ). Way nfa x m (w.start.0, n) way.0) at way.1;
                }
          ]

      -- a path that started before a position goes through one of its states
      crosses : (n : ℕ) → (scanned nfa x kind earliest n).found ≡ None → w.start.1 < x.start + n
          → Crosses nfa x m (x.start + n) (scanned nfa x kind earliest n).states
      crosses zero none less =
          let from : x.start ≤ w.start.1 = starts-from nfa x w.start w.among in
          absurd (omega arith)
      crosses (suc n) none less =
          let at = x.start + n in
          let c = scanned nfa x kind earliest n in
          let here = closure_at nfa x at c in
          let h = missed n none in
          let j = joined n h.before (omega arith) (crosses n h.before) in
          let rest = closure-reaches nfa x m accepts at (c.states ++ start_here nfa x c.starts) j.state j.rest j.among
          j.way in
          let plain = plain-kept nfa kind here h.pattern in
          let next = rests-cross nfa x m accepts at here (closed-rests nfa x at c) plain.plain rest in
          let same : at + 1 ≡ x.start + suc n = omega arith in
          subst (λ (k : ℕ). Crosses nfa x m k (scanned nfa x kind earliest (suc n)).states) same
          (subst (λ (states : List ℕ). Crosses nfa x m (at + 1) (step nfa (byte_at x at) states))
          (sym plain.kept_is) next)

    pub idle-passes : (n : ℕ) → IsIdle nfa (holding_at x.haystack (x.start + n)) (scanned nfa x kind earliest n)
        → StartsFrom nfa x (x.start + n)
    idle-passes n idle = record {
      from = λ m p w accepts.
          elim (cases_lt w.start.1 (x.start + n)) [
            | inl less ↦
                let c = scanned nfa x kind earliest n in
                let h = crosses m p w accepts n idle.nothing less in
                let rest = closure-reaches nfa x m accepts (x.start + n) c.states h.state h.rest h.among h.way in
                absurd (rw idle.closed at rest.among)
            | inr from ↦ from
          ];
    }

-- a match ends at each such position or after it
module _ (nfa : Automaton) (x : Search) where
  path-onward : (m v : Pair) (p : List Pair) → HeadIs v p → Linked (edges nfa x) p → EndsWith m p → v.1 ≤ m.1
  path-onward m v [] head linked ends = absurd head
  path-onward m v (w ∷ []) head linked ends = grind arith
  path-onward m v (w ∷ (u ∷ p)) head linked ends =
      grind (arith, edges-onward nfa x w u, path-onward m u (u ∷ p) refl)

  pub half-after : (s : ℕ) → StartsFrom nfa x s → (kind : MatchKind) (earliest : Bool) (h : HalfFound)
      → scan_half nfa x kind earliest ≡ Some h → s ≤ h.offset
  half-after s starts kind earliest h is =
      let a = scan-answered nfa x kind earliest in
      of a.path a.answers (a.half_is ∙ is)
    where
      never : None ≡ Some h → ⊥
      never e = cc

      end : (v : Pair) (o : Option ℕ) → option_map (λ k. record { pattern = k; offset = v.1 }) o ≡ Some h
          → v.1 ≡ h.offset
      end v None e = absurd (never e)
      end v (Some k) e = ap (λ (g : Option HalfFound). option_map_or (λ f. f.offset) g 0) e

      of : (o : Option (List Pair)) → IsScanAnswer nfa x kind earliest o → option_and_then (path_half nfa) o ≡ Some h
          → s ≤ h.offset
      of None answers e = absurd (never e)
      of (Some p) answers e =
          let to = scan_answer-leads nfa x kind earliest p answers in
          let last = EndsWith-last None to.end p to.path.ends in
          let from : s ≤ to.path.start.1 = starts.from to.end p to.path to.matches in
          let on : to.path.start.1 ≤ to.end.1 =
          path-onward to.end to.path.start p to.path.head to.path.linked to.path.ends in
          let at : to.end.1 ≡ h.offset =
          end to.end (pattern_of (node_at nfa to.end.0)) (rw last at e) in
          omega arith

  -- no path starts before the search does
  pub StartsFrom-start : StartsFrom nfa x x.start
  StartsFrom-start = record { from = λ m p w accepts. starts-from nfa x w.start w.among }

-- the law of idle positions
pub ruleset idle_positions = (idle-passes)

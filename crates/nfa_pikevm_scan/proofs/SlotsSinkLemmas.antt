-- What the last row is when the matches of a position were taken.
use Rattle.nfa_pikevm_scan.proofs.Common.{Automaton, Bool, EndsInMatch, Frontier, List, Moment, None, PatternID, Search, Slots, Some, StatesGive, Takes, [], ap, arith, ends, false, first_match, inl, inr, is_match, none, plain, refl, taken, true, ℕ, ◌∙◌, ◌∷◌, ◌≡◌, ClosuresGive, FindsMatch, Hit, IsHit, Marks, NextsGive, Option, SlotsSink, SlotsSinkTakes, between, is_some, last_match, meant, not, unmarked, ◌⊎◌}
use Rattle.nfa_pikevm_scan.proofs.FrontierLemmas.{Formed-resting}
use Rattle.nfa_pikevm_scan.proofs.ClosureLemmas.{Turns-begin, Turns-then}
use Rattle.nfa_pikevm_scan.proofs.NextsLemmas.{ClosuresGive-one}
use Rattle.nfa_pikevm_scan.proofs.SinkLemmas.{StatesGive-if, Takes-cut, Takes-match, Takes-none, Takes-then}

-- the match that was taken last, with its slots: the position ends with it, unless it goes past it
abbrev LastTakes : Bool → Option PatternID × Slots → PatternID → Slots → Bool → Option PatternID × Slots → Type 0
LastTakes past old pattern row ended new = (new ≡ (Some pattern, row)) × (ended ≡ not past)

-- it is the match of the sink
last-of : {nfa : Automaton} {front : Frontier} {v w : SlotsSink} {ended past : Bool}
    → Takes nfa SlotsSinkTakes front v ended w → v.past_match ≡ past
    → Takes nfa (LastTakes past) front (v.hit, v.slots.now) ended (w.hit, w.slots.now)
last-of none is = none
last-of (plain apart t) is = plain apart (last-of t is)
last-of (taken p at k t) is = taken p at (cc (k.hit, k.slots), k.ends ∙ ap not is) (last-of t (k.past ∙ is))
last-of (ends p at k) is = ends p at (cc (k.hit, k.slots), k.ends ∙ ap not is)

module _ {nfa : Automaton} where
  -- the match that is meant is taken last: the first one, or the last one with `past`
  last-meant : {past : Bool} {front : Frontier} {v w : Option PatternID × Slots} {ended : Bool}
      → Takes nfa (LastTakes past) front v ended w → past ≡ true → (g : Hit) (slots : Slots)
      → IsHit nfa g slots v.0 v.1 → IsHit nfa (last_match (is_match nfa) g front) slots w.0 w.1
  last-meant none on g slots h = h
  last-meant (plain apart t) on g slots h = rw apart (last-meant t on g slots h)
  last-meant (taken {a = a} p is k t) on g slots h =
      rw is (last-meant t on (Some a) slots (rw k.0 (a.0, refl, is)))
  last-meant (ends p is k) on g slots h = absurd (cc (k.1 ∙ ap not on))

  first-meant : {past : Bool} {front : Frontier} {v w : Option PatternID × Slots} {ended : Bool}
      → Takes nfa (LastTakes past) front v ended w → past ≡ false → v.0 ≡ None
      → IsHit nfa (first_match (is_match nfa) front) v.1 w.0 w.1
  first-meant none off fresh = rw fresh (refl, refl)
  first-meant (plain apart t) off fresh = rw apart (first-meant t off fresh)
  first-meant (taken p is k t) off fresh = absurd (cc (k.1 ∙ ap not off))
  first-meant (ends {a = a} p is k) off fresh = rw (is, k.0) (a.0, refl, is)

  -- if none was taken, and always with `past`, the position goes on
  on-taken : {past : Bool} {front : Frontier} {v w : Option PatternID × Slots} {ended : Bool}
      → Takes nfa (LastTakes past) front v ended w → (past ≡ true) ⊎ (w.0 ≡ None) → ended ≡ false
  on-taken none on = refl
  on-taken (plain apart t) on = on-taken t on
  on-taken (taken p is k t) on = on-taken t on
  on-taken (ends p is k) on = grind (arith, k)

  -- the result of all states of a position, as the match that is meant
  NextsGive-last : {x : Search} {at : ℕ} {a b : Moment} {past ended : Bool} {left : List (ℕ × Slots)} {front : Frontier}
      {slots last : Slots} {hit : Option PatternID} → (ended ≡ false → left ≡ [])
      → StatesGive nfa x at a (ended ≡ false) left front b
      → Takes nfa (LastTakes past) front (None, slots) ended (hit, last)
      → NextsGive nfa x at past (record a { slots = slots }) hit (record b { slots = last })
  NextsGive-last {x} {at} {a} {b} {past} {ended} {front = front} {slots} {last} {hit} whole g t = record {
    front = front;
    gives = StatesGive-if slots last (on-taken t) (λ on. whole (on-taken t on)) g;
    is_hit = of past t;
    cut = λ off. Takes-cut (λ v t. t) (λ v. past ≡ false) (λ v w a p ended k here is h. (k, rw is (h.1 ∙ ap not k))) x
        off (λ a i. (Formed-resting nfa x at b.met.bits front g.formed a i).1) t;
  }
    where
      of : (p : Bool) → Takes nfa (LastTakes p) front (None, slots) ended (hit, last)
          → IsHit nfa (meant p (is_match nfa) front) slots hit last
      of true t = last-meant t refl None slots (refl, refl)
      of false t = first-meant t refl refl

  -- of the sink
  pub NextsGive-taken : {x : Search} {at : ℕ} {a b : Moment} {old new : SlotsSink} → old.hit ≡ None
      → ClosuresGive nfa x SlotsSinkTakes at a old b new
      → NextsGive nfa x at old.past_match (record a { slots = old.slots.now }) new.hit
      (record b { slots = new.slots.now })
  NextsGive-taken {old = old} fresh c =
      NextsGive-last c.whole c.leads.gives (rw fresh at (last-of c.leads.takes_all refl))

  -- of a state that is followed with its row to its first match: if there is none, the slots stay
  pub NextsGive-start : {x : Search} {at : ℕ} {met : Marks} {s : ℕ} {row slots last : Slots} {new : Moment}
      (hit : Option PatternID) {none : Bool} → is_some hit ≡ not none
      → ((none ≡ true) × (last ≡ slots)) ⊎ ((none ≡ false) × (last ≡ new.slots))
      → (is_some hit ≡ false → new.stack ≡ []) → FindsMatch nfa x at s (between (unmarked met) [] row) hit new
      → NextsGive nfa x at false (between met ((s, row) ∷ []) slots) hit (between new.met new.kept last)
  NextsGive-start {at = at} {met} {s} {row} {slots} {last} {new} hit {none = off} is last_is over f =
      let c = ClosuresGive-one {begun = between met ((s, row) ∷ []) []} {then = between new.met new.kept []} refl refl
      refl (record {
        stack = _;
        slots = _;
        gives = Turns-then (Turns-begin none) f (λ _ front t e. Takes-then t (of front hit is e));
        whole = over;
      }) in
      NextsGive-last c.whole c.leads.gives c.leads.takes_all
    where
      of : (front : Frontier) (o : Option PatternID) → is_some o ≡ not off → EndsInMatch nfa at new.slots o front
          → Takes nfa (LastTakes false) front (None, slots) (is_some o) (o, last)
      of front None some e = elim last_is [
        | inl h ↦ rw h.1 (Takes-none front (None, slots) e)
        | inr h ↦ let never : false ≡ true = rw h.0 at some in cc
      ]
      of front (Some p) some e = elim last_is [
        | inl h ↦ let never : true ≡ false = rw h.0 at some in cc
        | inr h ↦ Takes-match p true refl e (ap (λ s. (Some p, s)) h.1, refl)
      ]

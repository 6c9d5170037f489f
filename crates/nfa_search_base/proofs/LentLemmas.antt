-- A step whose captures are lent is one that gives them as its item.
use Rattle.nfa_paths.proofs.Common.{Bor, ◌≡◌, ◌<◌, ◌++◌, [], ◌∷◌, List, map, true, false, Bool, Option, None, Some, Result, Ok, Err, IsOk, OnSome, inl, inr, refl, subst, sym, MatchBool, option_map, is_none, IsSomeAnd, Found, Captured, Search, Span, arith, match_of}
use Rattle.nfa_search_base.specs.Common.{Advances, Answer, GivesCopy, IterState, Yields, LeavesFewer, Row, SearchError, Steps, TakesBareStep, TakesStep, answer_span, ends_at, filled_answer, held_unless, items_left, lent_item, repeats, row_of, row_span, steps_iter_state, takes_bare_steps, takes_steps}
use Rattle.nfa_search_base.proofs.OkItemLemmas.{oked-more}
use Rattle.nfa_search_base.proofs.RunLemmas.{yields-more}
use Rattle.nfa_search_base.proofs.StepLemmas.{chosen}

-- the captures that a search left are the item of its answer, if it did not fail
held-row : (c : Captured) (m : Option Found) (done : Bool)
    → done ≡ is_none (answer_span row_span (Ok (option_map (λ x. row_of c) m)))
    → GivesCopy c (Ok (option_map (λ x. row_of c) m)) (held_unless done c)
held-row c None true is = refl
held-row c (Some m) false is = inl (refl, refl)
held-row c None false is = cc
held-row c (Some m) true is = cc

held-gives : (c : Captured) (reply : Result (Unit {0}) SearchError) (done : Bool)
    → done ≡ is_none (answer_span row_span (filled_answer c reply)) → IsOk (filled_answer c reply)
    → GivesCopy c (filled_answer c reply) (held_unless done c)
held-gives c (Ok u) done is ok = held-row c (match_of c.pattern c.slots) done is
held-gives c (Err e) done is ok = cc

-- the iterator has ended exactly if there is no such item
held-ends : (done : Bool) (c : Captured) → done ≡ ends_at (held_unless done c)
held-ends true c = refl
held-ends false c = refl

-- after such an item fewer are left
held-fewer : (done : Bool) (c : Captured) (w w' : IterState) (p : Option Span) → done ≡ is_none p
    → LeavesFewer w p w' → OnSome (held_unless done c) (items_left done w' < items_left false w)
held-fewer true c w w' p is less = tt
held-fewer false c w w' (Some p) is less = omega (arith, less)
held-fewer false c w w' None is less = cc

-- Searches that fill captures and never fail.
module _ {S : Type 0} (captures : S → Captured) {asks : S → Search → Answer Row → S → Type 0}
    (sure : (s : S) (x : Search) (a : Answer Row) (t : S) → asks s x a t → IsOk a) where
  -- so no step fails
  sure-step : {s t : S} {w w' : IterState} {a : Answer Row} → Advances row_span asks s w a t w' → IsOk a
  sure-step {s = s} {t = t} {w = w} {a = a} step =
      elim (chosen (repeats w (answer_span row_span step.answer)) step.rest) [
        | inl p ↦ sure _ _ a t p.1.0
        | inr p ↦ rw p.1.0 (sure s w.at step.answer step.between step.first)
      ]

  bare-step : (s t : Steps S) (reply : Option (Result (Unit {0}) SearchError))
      → IsSomeAnd reply (λ r. TakesBareStep row_span asks s (filled_answer (captures t.backend) r) t)
      → TakesStep row_span asks (λ q. GivesCopy (captures q)) s (held_unless t.done (captures t.backend)) t
  bare-step s t None st = absurd st
  bare-step s t (Some r) st =
      let c = captures t.backend in
      record {
        answer = filled_answer c r;
        step = st.step;
        item = held-gives c r t.done st.ends (sure-step st.step);
        ends = held-ends t.done c;
        rises = st.rises;
        same = st.same;
        fewer = held-fewer t.done c (steps_iter_state s) (steps_iter_state t)
            (answer_span row_span (filled_answer c r)) st.ends st.fewer;
      }

  -- a call that makes no item is one that gives the captures which it left
  pub lent-step : (s t : Steps S) (reply : Option (Result (Unit {0}) SearchError))
      → takes_bare_steps row_span asks (λ q. filled_answer (captures q)) s reply t
      → takes_steps row_span asks (λ q. GivesCopy (captures q)) s (held_unless t.done (captures t.backend)) t
  lent-step s t reply st =
      let item = held_unless t.done (captures t.backend) in
      let steps : Bool → Type 0 = λ done. MatchBool done ((item ≡ None) × (t ≡ s))
      (TakesStep row_span asks (λ q. GivesCopy (captures q)) s item t) in
      elim (chosen s.done st) [
        | inl p ↦ rw (p.1.1, p.0) (refl, refl)
        | inr p ↦ subst steps (sym p.0) (bare-step s t reply p.1)
      ]

-- after a call that gives lent captures fewer items are left
pub lent-fewer : {S X : Type 0} (span : X → Span) (asks : S → Search → Answer X → S → Type 0)
    (gives : S → Answer X → Option (Result Captured SearchError) → Type 0) (s t : Steps S)
    (lent : Option (Bor Captured)) → takes_steps span asks gives s (lent_item lent) t
    → OnSome lent (items_left t.done (steps_iter_state t) < items_left s.done (steps_iter_state s))
lent-fewer span asks gives s t None st = tt
lent-fewer span asks gives s t (Some c) st = elim (chosen s.done st) [
  | inl p ↦ let never : (let item : Option (Result Captured SearchError) = Some (Ok c.now) in item ≡ None) = p.1.0 in cc
  | inr p ↦ rw p.0 p.1.fewer
]

-- captures that calls gave or lent, and one more that are lent
pub lent-more : {T : Type 0} (steps : T → Option (Result Captured SearchError) → T → Type 0) (cs : List Captured)
    (s t u : T) (c : Captured) → Yields steps s (map Ok cs) t → steps t (Some (Ok c)) u
    → Yields steps s (map Ok (cs ++ c ∷ [])) u
lent-more steps cs s t u c ran call =
    subst (λ (items : List (Result Captured SearchError)). Yields steps s items u) (oked-more cs c)
    (yields-more steps (map Ok cs) s t u (Ok c) ran call)

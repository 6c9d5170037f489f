-- The steps of a search that is a function give its greedy list. Half and full iteration give the same ends.
use Rattle.nfa_paths.proofs.Common.{YieldsList, ◌≡◌, ℕ, zero, suc, ◌+◌, ◌<◌, true, false, Bool, Option, None, Some, Result, Ok, Err, List, [], refl, ◌∙◌, ap, subst, inl, inr, arith, option_map, Search, Span, MatchKind, Automaton, IsBoolAnswer, map, Found, HalfFound}
use Rattle.nfa_search_base.specs.Common.{SameButStart, IterState, Answer, answer_span, Advances, repeats, shifted, ends_left, Item, item_by, items_left, step_answer, step_iter_state, items_from, items_within, greedy, greedy_unless, ServesOnAlong, GivesItem, ends_at, steps_iter_state, takes_steps, AlwaysYields, result_transpose, SearchError, Steps, finds, answer_by, end_of, IsIterState, FindsEnds, HalfAndFullAgree, span_of, half_span_of}
use Rattle.nfa_search_base.proofs.AskingLemmas.{same_start-self, Along-call, Along-now, same_start-then}
use Rattle.nfa_search_base.proofs.StepLemmas.{chosen, step-taken, Along-turn}
use Rattle.nfa_paths.proofs.AnswerLemmas.{search_answer-unique}
use Rattle.nfa_paths.proofs.ExistenceLemmas.{search_answer-exists}
use Rattle.nfa_search_base.proofs.IterStateLemmas.{same_start-after, same_start-shifted, same_start-after_shifted}

-- If calls answer as h does, a step is the step of h.
pub step-computes : {S X : Type 0} {accepts : S → Search → Type 0} {asks : S → Search → Answer X → S → Type 0}
    {span : X → Span} {h : Search → Answer X} {s s' : S} {w w' : IterState} {r : Answer X}
    → ServesOnAlong accepts asks SameButStart (λ t a. a ≡ h t) s w.at → Advances span asks s w r s' w'
    → (r ≡ step_answer span h w) × (w' ≡ step_iter_state span h w)
step-computes {span = span} {h = h} {s' = s'} {w = w} {r = r} serves step =
    let e : step.answer ≡ h w.at =
    (Along-now serves (same_start-self w.at)).replies step.answer step.between step.first in
    elim (chosen (repeats w (answer_span span step.answer)) step.rest) [
      | inl p ↦
          let again : repeats w (answer_span span (h w.at)) ≡ true = rw e at p.0 in
          let then = Along-now (Along-call serves (same_start-self w.at) step.first) (same_start-shifted w) in
          let f : r ≡ h (shifted w).at = then.replies r s' p.1.0 in
          (rw again f, rw again (rw f at p.1.1))
      | inr p ↦
          let new : repeats w (answer_span span (h w.at)) ≡ false = rw e at p.0 in
          (rw new (p.1.0 ∙ e), rw new (rw (p.1.0, e) at p.1.2))
    ]

-- the iterator ends at an item as at its view
ends-by : {X Y : Type 0} (view : Y → X) (r : Option (Result Y SearchError))
    → ends_at r ≡ ends_at (option_map (item_by view) r)
ends-by view (Some (Ok y)) = refl
ends-by view (Some (Err e)) = refl
ends-by view None = refl

-- An iterator over matches, whose calls answer as h does.
module _ {S X Y : Type 0} (accepts : S → Search → Type 0) (asks : S → Search → Answer X → S → Type 0) (span : X → Span)
    (view : Y → X) (h : Search → Answer X) where
  abbrev steps : Steps S → Option (Result Y SearchError) → Steps S → Type 0
  steps s r t = takes_steps span asks (λ q. GivesItem view) s r t

  abbrev Good : Steps S → Type 0
  Good s = ServesOnAlong accepts asks SameButStart (λ t a. a ≡ h t) s.backend (steps_iter_state s).at

  ended : (s : Steps S) → s.done ≡ true → AlwaysYields steps (item_by view) s []
  ended s d = λ x j st. let k = rw d at st in let e : Some x ≡ None = k.0 in cc

  -- what the answer of a step gives first, if the items after a match are `rest`
  by_answer : (a : Answer X) (s : Steps S) (rest : List (Item X))
      → ((r : Option (Result Y SearchError)) (t : Steps S) → steps s r t
      → (option_map (item_by view) r ≡ result_transpose a) × (t.done ≡ ends_at (result_transpose a)))
      → ((r : Result Y SearchError) (t : Steps S) → t.done ≡ false → steps s (Some r) t
      → AlwaysYields steps (item_by view) t rest)
      → AlwaysYields steps (item_by view) s (items_from span a rest)
  by_answer (Ok (Some x)) s rest now onward = grind (arith)
  by_answer (Ok None) s rest now onward = λ r j st. let e : Some (item_by view r) ≡ None = (now (Some r) j st).0 in cc
  by_answer (Err q) s rest now onward = grind (arith)

  -- n steps are enough if fewer than n ends are left
  within : (n : ℕ) (s : Steps S) → Good s → s.done ≡ false → ends_left (steps_iter_state s) < n
      → AlwaysYields steps (item_by view) s (items_within span h n (steps_iter_state s))
  within zero s good d lt = absurd (omega arith)
  within (suc n) s good d lt = by_answer (step_answer span h (steps_iter_state s)) s
      (items_within span h n (step_iter_state span h (steps_iter_state s)))
      (λ r t st.
      let k = step-taken d st in
      let is = k.item ∙ ap result_transpose (step-computes good k.step).0 in
      (is, k.ends ∙ ends-by view r ∙ ap ends_at is))
      (λ r t going st.
      let k = step-taken d st in
      let less : items_left t.done (steps_iter_state t) < items_left false (steps_iter_state s) = k.fewer in
      let fewer : ends_left (steps_iter_state t) + 1 < ends_left (steps_iter_state s) + 1 = rw going at less in
      subst (λ (w : IterState). AlwaysYields steps (item_by view) t (items_within span h n w))
      (step-computes good k.step).1 (within n t (Along-turn k.step good k.same) going (omega arith)))

  -- every run gives the greedy list, and then `None`
  pub try-yields : (s : Steps S) → Good s
      → YieldsList steps (item_by view) s (greedy_unless span s.done h (steps_iter_state s))
  unfolding greedy
  try-yields s good = record { runs = at_done s.done refl }
    where
      at_done : (b : Bool) → s.done ≡ b
          → AlwaysYields steps (item_by view) s (greedy_unless span b h (steps_iter_state s))
      at_done true d = ended s d
      at_done false d = within (suc (ends_left (steps_iter_state s))) s good d (omega arith)

module _ (nfa : Automaton) (kind : MatchKind) (earliest : Bool) (x : Search) where
  -- it is an answer
  pub finds-answer : IsBoolAnswer nfa kind earliest x (finds nfa kind earliest x)
  unfolding finds
  finds-answer = grind (arith, search_answer-exists)

  -- and the one answer
  pub found-finds : (found : Bool) → IsBoolAnswer nfa kind earliest x found → found ≡ finds nfa kind earliest x
  found-finds found h = let k = finds-answer in grind (arith, search_answer-unique)

same_items : (a : Answer Found) (rest : List (Item Found))
    → items_from half_span_of (answer_by end_of a) (map (item_by end_of) rest)
    ≡ map (item_by end_of) (items_from span_of a rest)
same_items (Ok (Some m)) rest = refl
same_items (Ok None) rest = refl
same_items (Err e) rest = refl

module _ (h : Search → Answer Found) (k : Search → Answer HalfFound) where
  -- a step gives the end of the other's step, and leads to the same place
  record SameStep (w : IterState) : Type 0 where
    answer : step_answer half_span_of k w ≡ answer_by end_of (step_answer span_of h w)
    iter_state : step_iter_state half_span_of k w ≡ step_iter_state span_of h w
    next : IsIterState (step_iter_state span_of h w)
    like : SameButStart w.at (step_iter_state span_of h w).at

  same_step : (w : IterState) → IsIterState w → FindsEnds h k w.at → SameStep w
  same_step w is finds = grind (arith, same_start-self, same_start-shifted, same_start-after_shifted, same_start-after)

  -- what is found on searches like one is found on searches like another that is like it
  finds_like : (s t : Search) → SameButStart s t → FindsEnds h k s → FindsEnds h k t
  finds_like s t same finds = grind (arith, same_start-then)

  agree_within : (n : ℕ) (w : IterState) → IsIterState w → FindsEnds h k w.at
      → items_within half_span_of k n w ≡ map (item_by end_of) (items_within span_of h n w)
  agree_within zero w is finds = refl
  agree_within (suc n) w is finds =
      let step = same_step w is finds in
      let rest = agree_within n (step_iter_state span_of h w) step.next
      (finds_like w.at (step_iter_state span_of h w).at step.like finds) in
      rw (step.answer, step.iter_state, rest)
      (same_items (step_answer span_of h w) (items_within span_of h n (step_iter_state span_of h w)))

pub half-and-full-agree : HalfAndFullAgree
unfolding greedy
half-and-full-agree h k w is finds = agree_within h k (suc (ends_left w)) w is finds

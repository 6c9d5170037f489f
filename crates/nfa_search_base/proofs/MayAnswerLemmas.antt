-- What may be answered along the calls of an iterator that keeps its finder, the iterator gives, and so it gives the
-- answers of a search.
use Rattle.std.proofs.lemmas.Fn.{FoldsTo-push}
use Rattle.nfa_search_base.specs.Common.{SameButStart, Item, ItemsGiven, item_by, matches_in, IsStep, ItemsLast, AreSpansDisjoint, LeadsOn, MayReply, ServesOnAlong, steps_iter_state, Answer, IterState, AnswerIsInside, after, answer_span, Yields, vec_items, Vec, SearchError, Steps, IsCallableOn, Finds, AnswersAlong, Fails, AreAllStoredMatches, AllFound, FirstFound, MayAnswer, stored_match_steps, infallible_match_steps, RunsApart, spans_in, GivesAll, AllSure, FirstSure, IsInfalliblyInside, Mut, Bor, Row, WithCaptures, CanFill, Fills, FillsAlong, row_of, row_span, filled_answer, AreAllStoredCaptures, FailsOrIsRefused, AllFilled, FirstFilled, MayAnswerRow, stored_captures_steps, takes_infallible_captures, MutBor}
use Rattle.nfa_search_base.proofs.AskingLemmas.{same_start-self, Along-weaker}
use Rattle.nfa_search_base.proofs.IterStateLemmas.{IsOrdered}
use Rattle.nfa_search_base.proofs.ItemLemmas.{EndsAt, ItemsOf, Last, Next, StepsBy, items_as, copies_of, plain_shell, same-items}
use Rattle.nfa_search_base.proofs.ListLemmas.{IsOnward, spans-disjoint, step-as}
use Rattle.nfa_search_base.proofs.RunLemmas.{AnswersOf, given-at, given-as, given-inner}
use Rattle.nfa_paths.proofs.InsideLemmas.{offsets}
use Rattle.nfa_paths.proofs.Common.{IsCollectResult, ◌≡◌, false, List, [], ◌∷◌, ◌++◌, map, refl, sym, subst, arith, Option, None, Some, Result, Ok, Err, IfOk, Search, Span, ◌∙◌, ap, ◌≤◌, Input, ℕ, inl, inr, Found, Captured, match_of}

-- What an iteration that keeps its finder asks: when the finder may be called, a call, and the items of the answers.
pub record AskerOf (S X Y : Type 0) : Type 1 where
  pub accepts : S → Search → Type 0
  pub asks : S → Search → Answer X → S → Type 0
  pub items : ItemsOf S X Y

module _ {S X Y : Type 0} (asker : AskerOf S X Y) where
  open asker use {accepts, asks, items}

  module _ (f : S) (x : Search) where
    -- calls on searches like x led from f to q
    Reached : S → Type 0
    Reached q = (calls : List (Search × Answer X)) × LeadsOn accepts asks SameButStart x f calls q

    acts : (q : S) (t : Search) (a : Answer X) (q' : S) → SameButStart x t → Reached q → asks q t a q'
        → MayReply accepts asks SameButStart f x t a × Reached q'
    unfolding Reached
    acts q t a q' same reached found = (
      record { calls = reached.0; between = q; left = q'; leads = reached.1; same = same; asked = found },
      (
        reached.0 ++ (t, a) ∷ [],
        FoldsTo-push (λ p c r. SameButStart x c.0 × asks p c.0 c.1 r) f reached.0 q (t, a) q' reached.1 (same, found),
      ),
    )

  module _ (s : Steps S) where
    abbrev w : IterState
    w = steps_iter_state s

    -- what the finder of an iterator may answer
    abbrev May : Search → Answer X → Type 0
    May = MayReply accepts asks SameButStart s.backend w.at

    -- an iterator that has not ended gives
    pub may-given : s.done ≡ false → ItemsGiven (StepsBy items asks) (Next items May w) (Last items May w) s
    unfolding Reached
    may-given going =
        let answers : AnswersOf S w.at May =
        record { asks = asks; Good = Reached s.backend w.at; acts = acts s.backend w.at } in
        given-at items answers w s
        (record { iter_state = refl; going = going; good = ([], refl); like = same_start-self w.at })

    -- Their matches do not overlap if those of the finder are in the spans of its searches.
    pub may-disjoint
        : ((q : S) (t : Search) (a : Answer X) (q' : S) → asks q t a q' → IsOrdered (answer_span items.span a))
        → ServesOnAlong accepts asks SameButStart (AnswerIsInside items.span) s.backend w.at
        → (xs : List (Result Y SearchError)) → Next items May w xs
        → AreSpansDisjoint w.at w.last (map items.span (matches_in (map (item_by items.view) xs)))
    may-disjoint ordered serves xs come =
        let on : IsOnward w.at w = record { from = omega arith; to = refl; behind = s.searcher.ends_by } in
        spans-disjoint items.span May
        (λ t a k. (
          (serves.at k.calls k.between t k.leads k.same).replies a k.left k.asked,
          ordered k.between t a k.left k.asked,
        ))
        (EndsAt items May) (map (item_by items.view) xs) on come

-- If each answer by the first relation is one by the second, the items by the first are items by the second.
module _ {X : Type 0} (span : X → Span) {under tells : Search → Answer X → Type 0}
    (so : (t : Search) (a : Answer X) → under t a → tells t a) where
  pub step-answered : (w : IterState) (a : Answer X) → IsStep span under w a → IsStep span tells w a
  step-answered w a h = step-as (record { shown = λ b. b; same = λ b. refl; so = so }) h

  pub last-answered : (ends ends' : IterState → SearchError → Type 0)
      → ((w : IterState) (e : SearchError) → ends w e → ends' w e) → (w : IterState) (items : List (Item X))
      → ItemsLast span under ends w items → ItemsLast span tells ends' w items
  last-answered ends ends' end w [] h = step-answered w (Ok None) h
  last-answered ends ends' end w (Ok x ∷ items) h =
      (step-answered w (Ok (Some x)) h.0, last-answered ends ends' end (after w (Some (span x))) items h.1)
  last-answered ends ends' end w (Err e ∷ items) h = (end w e h.0, h.1)

-- What `collect` makes of an iterator that gives a whole list at its end: that list.
pub collected_all : {S A Z E : Type 0} (steps : S → Option A → S → Type 0) (Whole : List A → Type 0) (s : S)
    (r : Result (Vec A Z) E) → IsCollectResult steps s r
    → ((xs : List A) (t u : S) → Yields steps s xs t → steps t None u → Whole xs)
    → IfOk r (λ all. Whole (vec_items all))
collected_all steps Whole s (Ok all) ran gives = grind (arith)
collected_all steps Whole s (Err e) ran gives = tt

module _ {A X F : Type 0} (view : A → X) (span : X → Span)
    (g : Mut F (Bor Input × Unit {0}) (Result (Option A) SearchError)) where
  -- the items are the finder's answers
  abbrev answers : AskerOf F X A
  answers = record { accepts = IsCallableOn g; asks = Finds view g; items = items_as span view }

  module _ (s : Steps F) (going : s.done ≡ false) where
    -- its calls give
    pub found : ItemsGiven (stored_match_steps view span g) (FirstFound view span g s.backend (steps_iter_state s))
        (AllFound view span g s.backend (steps_iter_state s)) s
    found = given-as (stored_match_steps view span g) (may-given answers s going)
        (λ xs h. record { come = h }) (λ xs h. record { come = h })

    -- and so do those of the iterator whose finder never errs
    pub sure : ItemsGiven (infallible_match_steps view span g) (FirstSure view span g s.backend (steps_iter_state s))
        (AllSure view span g s.backend (steps_iter_state s)) s
    sure = given-inner (record {
      calls = infallible_match_steps view span g;
      inner = λ q. q;
      is = λ p r q st. st;
    }) found

  sure-spans : (ms : List A)
      → spans_in view span (map (λ m. Ok m) ms) ≡ map (λ m. span (view m)) ms
  sure-spans [] = refl
  sure-spans (m ∷ ms) = ap (λ (l : List Span). span (view m) ∷ l) (sure-spans ms)

  -- Its matches are in the spans of its searches.
  module _ (ordered : (m : A) → (span (view m)).start ≤ (span (view m)).end) where
    answer-ordered : (q : F) (t : Search) (a : Answer X) (q' : F) → Finds view g q t a q'
        → IsOrdered (answer_span span a)
    answer-ordered q t a q' k = grind (arith)

    module _ (s : Steps F) (going : s.done ≡ false) where
      pub found-disjoint : AnswersAlong view g (AnswerIsInside span) s.backend (steps_iter_state s).at
          → RunsApart (stored_match_steps view span g) (spans_in view span) (steps_iter_state s) s
      found-disjoint serves = λ p seen from.
          may-disjoint answers s answer-ordered serves p.items ((found s going).runs p seen from).0.come

      pub sure-disjoint : AnswersAlong view g (IsInfalliblyInside span) s.backend (steps_iter_state s).at
          → RunsApart (infallible_match_steps view span g) (map (λ m. span (view m))) (steps_iter_state s) s
      sure-disjoint serves = λ p seen from.
          subst (λ (l : List Span). AreSpansDisjoint (steps_iter_state s).at (steps_iter_state s).last l)
          (sure-spans p.items)
          (may-disjoint answers s answer-ordered (Along-weaker (λ t a k. k.0) serves) (map (λ m. Ok m) p.items)
          ((sure s going).runs p seen from).0.come)

-- If each call leaves the finder as it was, what it answers on one search it may answer along all calls.
module _ {A X F : Type 0} {view : A → X} {g : Mut F (Bor Input × Unit {0}) (Result (Option A) SearchError)} {f : F}
    {tells : Search → Answer X → Type 0}
    (says_so : (t : Search) (a : Answer X) (f' : F) → Finds view g f t a f' → (f' ≡ f) × tells t a) where
  kept : (x : Search) (calls : List (Search × Answer X)) (q q' : F) → q ≡ f
      → LeadsOn (IsCallableOn g) (Finds view g) SameButStart x q calls q' → q' ≡ f
  kept x [] q q' same leads = sym leads ∙ same
  kept x (c ∷ calls) q q' same leads =
      let asked = rw same at leads.1.1 in
      kept x calls leads.0 q' (says_so c.0 c.1 leads.0 asked).0 leads.2

  may-tells : (span : X → Span) (x t : Search) (a : Answer X) → MayAnswer view span g f x t a → tells t a
  may-tells span x t a k =
      let same = kept x k.calls f k.between refl k.leads in
      (says_so t a k.left (rw same at k.asked)).1

  all-answered : {span : X → Span} {x : Search} {w : IterState} {items : List (Result A SearchError)}
      → AreAllStoredMatches span (MayAnswer view span g f x) view w items → AreAllStoredMatches span tells view w items
  all-answered {span = span} {x = x} {w = w} {items = items} h = record {
    come = last-answered span (may-tells span x) (Fails span (MayAnswer view span g f x)) (Fails span tells)
        (λ v e k. step-answered span (may-tells span x) v (Err e) k) w (map (item_by view) items) h.come;
  }

-- The result of `collect` on such an iterator, which has begun at v: all items, as the finder answers.
module _ {A X F : Type 0} {view : A → X} {span : X → Span}
    {g : Mut F (Bor Input × Unit {0}) (Result (Option A) SearchError)} {f : F} {w : IterState} {s : Steps F} where
  pub collected_as : {Z E : Type 0} (tells : Search → Answer X → Type 0) (v : IterState)
      (r : Result (Vec (Result A SearchError) Z) E) → IsCollectResult (stored_match_steps view span g) s r
      → GivesAll (stored_match_steps view span g) (AllFound view span g f w) s → w ≡ v
      → ((t : Search) (a : Answer X) (f' : F) → Finds view g f t a f' → (f' ≡ f) × tells t a)
      → IfOk r (λ all. AreAllStoredMatches span tells view v (vec_items all))
  collected_as tells v r ran gives is says_so =
      collected_all (stored_match_steps view span g) (AreAllStoredMatches span tells view v) s r ran
      (λ xs t u y st. rw is at (all-answered says_so (gives xs t u y st)))

  -- and of one whose finder never errs
  pub collected_infallibly_as : {Z E : Type 0} (tells : Search → Answer X → Type 0) (v : IterState)
      (r : Result (Vec A Z) E) → IsCollectResult (infallible_match_steps view span g) s r
      → GivesAll (infallible_match_steps view span g) (AllSure view span g f w) s → w ≡ v
      → ((t : Search) (a : Answer X) (f' : F) → Finds view g f t a f' → (f' ≡ f) × tells t a)
      → IfOk r (λ all. AreAllStoredMatches span tells view v (map (λ m. Ok m) (vec_items all)))
  collected_infallibly_as tells v r ran gives is says_so =
      collected_all (infallible_match_steps view span g)
      (λ ms. AreAllStoredMatches span tells view v (map (λ m. Ok m) ms)) s r ran
      (λ xs t u y st. rw is at (all-answered says_so (gives xs t u y st)))

-- a match of captures starts at or before its end
match-ordered : (pattern : Option ℕ) (slots : List (Option ℕ)) (m : Found) → match_of pattern slots ≡ Some m
    → m.start ≤ m.end
match-ordered None slots m is = cc
match-ordered (Some p) slots m is = (offsets slots p m is).2

nowhere : IsOrdered None
nowhere = λ p is. let never : None ≡ Some p = is in cc

row-ordered : (c : Captured) (reply : Result (Unit {0}) SearchError) (a : Answer Row) → a ≡ filled_answer c reply
    → IsOrdered (answer_span row_span a)
row-ordered c (Err e) a is = rw is nowhere
row-ordered c (Ok u) a is = grind (arith, nowhere, match-ordered)

module _ {F : Type 0} (g : Mut F (Bor Input × (MutBor Captured × Unit {0}))
    (Result (Unit {0}) SearchError × (MutBor Captured × Unit {0}))) where
  -- the items are copies of the captures that the finder filled
  abbrev copies : AskerOf (WithCaptures F) Row Captured
  copies = record { accepts = CanFill g; asks = Fills g; items = copies_of (λ q. q.captures) }

  filled-ordered : (q : WithCaptures F) (t : Search) (a : Answer Row) (q' : WithCaptures F) → Fills g q t a q'
      → IsOrdered (answer_span row_span a)
  filled-ordered q t a q' k = row-ordered q'.captures k.reply a k.answers

  module _ (s : Steps (WithCaptures F)) (going : s.done ≡ false) where
    abbrev First : List (Result Captured SearchError) → Type 0
    First = FirstFilled g s.backend (steps_iter_state s)

    abbrev Whole : List (Result Captured SearchError) → Type 0
    Whole = AllFilled g s.backend (steps_iter_state s)

    -- its calls give
    pub caught : ItemsGiven (stored_captures_steps g) First Whole s
    caught = given-as (stored_captures_steps g) (may-given copies s going)
        (λ xs h. record { come = h }) (λ xs h. record { come = h })

    -- and so do those of the iterator whose finder never errs
    pub sure-caught : ItemsGiven (takes_infallible_captures g) First Whole s
    sure-caught = given-as (takes_infallible_captures g)
        (given-inner (plain_shell (takes_infallible_captures g) (λ q. q) (λ q r t st. st.0)) caught)
        (λ xs h. rw (same-items xs) at h) (λ xs h. rw (same-items xs) at h)

    -- Their matches are in the spans of the finder's searches.
    pub caught-disjoint : FillsAlong g (AnswerIsInside row_span) s.backend (steps_iter_state s).at
        → RunsApart (stored_captures_steps g) (spans_in row_of row_span) (steps_iter_state s) s
    caught-disjoint serves = λ p seen from.
        may-disjoint copies s filled-ordered serves p.items (caught.runs p seen from).0.come

    pub sure-caught_disjoint : FillsAlong g (IsInfalliblyInside row_span) s.backend (steps_iter_state s).at
        → RunsApart (takes_infallible_captures g) (spans_in row_of row_span) (steps_iter_state s) s
    sure-caught_disjoint serves = λ p seen from.
        may-disjoint copies s filled-ordered (Along-weaker (λ t a k. k.0) serves) p.items
        (sure-caught.runs p seen from).0.come

-- If each answer by the first relation is one by the second, the captures by the first are captures by the second.
module _ {under tells : Search → Answer Row → Type 0} (so : (t : Search) (a : Answer Row) → under t a → tells t a)
  where
    ends-answered : (w : IterState) (e : SearchError) → FailsOrIsRefused row_span under w e
        → FailsOrIsRefused row_span tells w e
    ends-answered w e (inl fails) = inl (step-answered row_span so w (Err e) fails)
    ends-answered w e (inr refused) =
        inr (refused.0, refused.1, step-answered row_span so w (Ok (Some refused.1)) refused.2)

    all-rows_answered : {w : IterState} {items : List (Result Captured SearchError)}
        → AreAllStoredCaptures under w items → AreAllStoredCaptures tells w items
    all-rows_answered {w = w} {items = items} h = grind (arith, last-answered, ends-answered)

-- The result of `collect` on such an iterator, if its finder never errs and answers this with any captures: all
-- captures.
module _ {F : Type 0} {g : Mut F (Bor Input × (MutBor Captured × Unit {0}))
    (Result (Unit {0}) SearchError × (MutBor Captured × Unit {0}))} {c : WithCaptures F} {w : IterState}
    {s : Steps (WithCaptures F)} where
  pub captures_collected_infallibly_as : {Z E : Type 0} (tells : Search → Answer Row → Type 0) (v : IterState)
      (r : Result (Vec (Result Captured SearchError) Z) E) → IsCollectResult (takes_infallible_captures g) s r
      → GivesAll (takes_infallible_captures g) (AllFilled g c w) s → w ≡ v
      → ((q : WithCaptures F) (t : Search) (a : Answer Row) (q' : WithCaptures F) → Fills g q t a q' → tells t a)
      → IfOk r (λ all. AreAllStoredCaptures tells v (vec_items all))
  captures_collected_infallibly_as tells v r ran gives is says_so =
      let so : (t : Search) (a : Answer Row) → MayAnswerRow g c w.at t a → tells t a =
      λ t a k. says_so k.between t a k.left k.asked in
      collected_all (takes_infallible_captures g) (AreAllStoredCaptures tells v) s r ran
      (λ xs t u y st. rw is at (all-rows_answered so (gives xs t u y st)))

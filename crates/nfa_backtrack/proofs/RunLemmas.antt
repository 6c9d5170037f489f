-- The calls of an iterator over a backtracker's matches give the items of its search.
use Rattle.nfa_paths.proofs.Common.{cases_lt, ◌+◌, ◌*◌, length, length-append, IfErr, ◌≡◌, arith, false, Some, Result, Ok, Err, refl, ap, List, [], ◌∷◌, ◌++◌, map, inl, inr, Found, found_of, Search, Match, span_len, LeftmostFirst}
use Rattle.nfa_search_base.specs.Common.{IsStep, AnswersMatch, IsInside, steps_iter_state, ItemsGiven, IterState, Answer, fresh, span_of, OksGiven}
use Rattle.nfa_search_base.specs.declared.error.SearchError.{SearchError}
use Rattle.nfa_search_base.specs.declared.error.SearchError.TheVariants.{HaystackTooLong, Memory}
use Rattle.nfa_search_base.proofs.DrainedLemmas.{all-last}
use Rattle.nfa_search_base.proofs.ItemLemmas.{Last, Next, same-items, steps_in}
use Rattle.nfa_search_base.proofs.ListLemmas.{match-lies, matches-disjoint, step-lies}
use Rattle.nfa_search_base.proofs.OkItemLemmas.{GoesOnIn, ResultsOf, errors-memory, last-clean, next-clean, oked, oks-given, only-item, only-next, values-hold}
use Rattle.nfa_search_base.proofs.RunLemmas.{given-as, items-given}
use Rattle.nfa_backtrack.specs.Backtrack.{Backtracker, IsTooLong, capacity_of}
use Rattle.nfa_backtrack.specs.Iterators.{backtrack_matches, backtrack_matches_next}
use Rattle.nfa_backtrack.specs.Finding.{AnswersByLength, IsTryFindAnswer}
use Rattle.nfa_backtrack.specs.Runs.{OksAreAll, OksAreFirst, RunsInside, RunsDisjoint, AreFirstItems, AreAllItems, GivenByLength}
use Rattle.nfa_backtrack.specs.declared.find_iter.TryFindMatches.{TryFindMatches}
use Rattle.nfa_backtrack.proofs.FindLemmas.{back_answers, back_items, find_shell, finds-begin, memory-alone, refused-alone}

module _ (e : Backtracker) where
  abbrev tells : Search → Answer Found → Type 0
  tells = IsTryFindAnswer e

  abbrev Step : IterState → Answer Found → Type 0
  Step = IsStep span_of tells

  abbrev Clean : Search → Answer Found → Type 0
  Clean = AnswersMatch e.nfa LeftmostFirst false

  -- without an error the answer of a search is its match
  abbrev results : ResultsOf span_of
  results = record {
    tells = tells;
    clean = Clean;
    ok = λ t o h. h.1;
    lies = match-lies e.nfa LeftmostFirst false;
  }

  -- a match of the span is inside it
  step-inside : (x : Search) (w : IterState) (m : Match) → GoesOnIn back_items results x w
      → IsStep span_of Clean w (Ok (Some (found_of m))) → IsInside x (found_of m)
  step-inside x w m in_span step =
      let k = step-lies span_of Clean (match-lies e.nfa LeftmostFirst false) w (found_of m) step in
      record { from = omega (arith, in_span.0, k.0); ordered = k.1; to = omega (arith, in_span.1, k.2) }

  -- a search that is too long only gives its refusal
  only-refused : (x : Search) → IsTooLong e x → (a : Answer Found) → tells x a → a ≡ Err (HaystackTooLong (span_len x))
  only-refused x long (Ok found) h = absurd (h.0 long)
  only-refused x long (Err error) h =
      ap (λ (r : SearchError). let b : Answer Found = Err r in b) (refused-alone e x error long h)

  -- and it is the only item
  long-items : (x : Search) (xs : List (Result Match SearchError)) → IsTooLong e x → Last back_items tells (fresh x) xs
      → xs ≡ Err (HaystackTooLong (span_len x)) ∷ []
  long-items x xs long = only-item back_items results x (HaystackTooLong (span_len x)) (only-refused x long) xs

  long-last : (x : Search) → IsTooLong e x → (xs : List (Result Match SearchError)) (i : Result Match SearchError)
      → Next back_items tells (fresh x) (xs ++ i ∷ []) → i ≡ Err (HaystackTooLong (span_len x))
  long-last x long [] i h =
      let k = only-next back_items results x (HaystackTooLong (span_len x)) (only-refused x long) i [] h in cc
  long-last x long (y ∷ xs) i h =
      let k = only-next back_items results x (HaystackTooLong (span_len x)) (only-refused x long) y (xs ++ i ∷ []) h in
      absurd (omega (arith, simp length-append at (ap length k)))

  -- the last of some items
  item-by-length : (x : Search) (xs : List (Result Match SearchError)) (i : Result Match SearchError)
      → Next back_items tells (fresh x) (xs ++ i ∷ []) → AnswersByLength e x i
  item-by-length x xs i h = elim (cases_lt (capacity_of e) (length e.nfa.states * (span_len x + 1))) [
    | inl long ↦ rw (long-last x long xs i h) (inl (long, refl))
    | inr within ↦
        let fits : ¬ (IsTooLong e x) = λ long. omega arith in
        let errors = errors-memory back_items results x (memory-alone e x fits) (xs ++ i ∷ []) h in
        of i fits (all-last (λ item. IfErr item (λ q. q ≡ Memory)) xs i errors)
  ]
    where
      of : (i : Result Match SearchError) → ¬ (IsTooLong e x) → IfErr i (λ q. q ≡ Memory) → AnswersByLength e x i
      of (Ok m) fits memory = fits
      of (Err r) fits memory = inr (fits, memory)

  -- a list of only matches is not of a search that is too long
  oks-fit : (x : Search) (ms : List Match) → Last back_items tells (fresh x) (oked ms) → ¬ (IsTooLong e x)
  oks-fit x [] h = λ long. let k = long-items x (oked []) long h in cc
  oks-fit x (m ∷ ms) h = λ long. let k = long-items x (oked (m ∷ ms)) long h in cc

  module _ (x : Search) (s : TryFindMatches) (engine : (backtrack_matches s).steps.backend.engine.now ≡ e)
      (iter_state : steps_iter_state (backtrack_matches s).steps ≡ fresh x)
      (going : (backtrack_matches s).steps.done ≡ false) where
    abbrev First : List (Result Match SearchError) → Type 0
    First xs = AreFirstItems e x xs

    abbrev Whole : List (Result Match SearchError) → Type 0
    Whole xs = AreAllItems e x xs

    -- what its calls give
    pub finds-given : ItemsGiven backtrack_matches_next First Whole s
    finds-given = given-as backtrack_matches_next
        (items-given back_items (back_answers e x) (steps_in find_shell) s (finds-begin e x s engine iter_state going))
        (λ xs h. record { come = rw (same-items xs) at h }) (λ xs h. record { come = rw (same-items xs) at h })

    -- items that are all `Ok` are matches
    pub oks-match : OksGiven backtrack_matches_next (OksAreFirst e x) (OksAreAll e x) s
    oks-match = oks-given {First = First} {Whole = Whole} (record {
      first = λ ms h. record { come = next-clean back_items results (fresh x) ms h.come };
      whole = λ ms h. record { come = last-clean back_items results (fresh x) ms h.come };
    }) finds-given

    pub runs-inside : RunsInside x s
    runs-inside = λ p seen from.
        values-hold back_items results x (λ m. IsInside x (found_of m)) (step-inside x) p.items
        (finds-given.runs p seen from).0.come

    pub runs-disjoint : RunsDisjoint x s
    runs-disjoint = λ p seen from ms is. matches-disjoint e.nfa LeftmostFirst false x (map found_of ms)
        (oks-match.runs p seen from ms is).0

    pub given-by-length : GivenByLength e x s
    given-by-length = record {
      items = λ xs t i u ran st. item-by-length x xs i (finds-given.next xs t i u ran st).come;
      end = λ xs t u ms ran st is. oks-fit x ms (rw is at (finds-given.all xs t u ran st).come);
      refused = λ p seen from.
          let k = finds-given.runs p seen from in
          record {
            long = λ long whole. long-items x p.items long (k.1 whole).come;
            memory = λ fits. errors-memory back_items results x (memory-alone e x fits) p.items k.0.come;
          };
    }

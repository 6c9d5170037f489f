-- A backtracker as the engine of an iteration over matches: when its iterator may search, and what it gives and keeps.
use Rattle.nfa_paths.proofs.Common.{◌≡◌, ◌∙◌, ℕ, ◌-◌, ◌*◌, ◌≤◌, refl, false, Option, None, Some, Result, Ok, Err, arith, length, List, ◌∷◌, ap, inl, inr, IfOk, IfSome, option_map, Found, found_of, Search, Match, IsFindAnswer, raised, span_len, LeftmostFirst}
use Rattle.nfa_paths.proofs.EarliestLemmas.{match-sure, sure-match}
use Rattle.nfa_search_base.specs.Common.{Keeping, found_in, if_ends_at, answer_by, StepsLead, asks_keeping, WithCache, TakesStepWith, steps_with_state, steps_iter_state, GivesItem, can_step, takes_steps, Advances, Answer, AnswerIsInside, IterState, fresh, answer_span, span_of}
use Rattle.nfa_search_base.specs.declared.error.SearchError.{SearchError}
use Rattle.nfa_search_base.specs.declared.error.SearchError.TheVariants.{HaystackTooLong, Memory}
use Rattle.nfa_search_base.specs.declared.iter.steps.Steps.{Steps}
use Rattle.nfa_search_base.proofs.EngineLemmas.{EngineOf, FinderOf, KeptBy, SearchesAs, SearchesOf, answers_as, calls-kept, finds_by, searches-serve, step-may}
use Rattle.nfa_search_base.proofs.ItemLemmas.{ItemsOf, items_as, ShellOf, plain_shell, same-items, steps_in}
use Rattle.nfa_search_base.proofs.SkipLemmas.{match-from-scan}
use Rattle.nfa_search_base.proofs.LeavingLemmas.{calls-lead, calls-leave, finds-leave, finds-to_end}
use Rattle.nfa_search_base.proofs.ListLemmas.{match-lies}
use Rattle.nfa_search_base.proofs.IterStateLemmas.{IsOrdered}
use Rattle.nfa_search_base.proofs.RunLemmas.{AnswersOf, Begins}
use Rattle.nfa_backtrack.specs.Backtrack.{Backtracker, IsTooLong, BacktrackCache, refused_early}
use Rattle.nfa_backtrack.specs.Iterators.{AsksBacktracker, FindsBySearches, MayFindByBacktracker, backtrack_matches, backtrack_matches_next, backtracker_knowing, fits_always}
use Rattle.nfa_backtrack.specs.Finding.{Counts, DoesWork, IsCounted, IsRefusal, IsTryFindAnswer, IsSureAt, SearchesOnce, backtracker_scans}
use Rattle.nfa_backtrack.specs.declared.find_iter.Finder.{Finder}
use Rattle.nfa_backtrack.specs.declared.find_iter.TryFindMatches.{TryFindMatches}

-- a span is not too long if one that starts before it is not
pub still-fits : (e : Backtracker) (x y : Search) → y.end ≡ x.end → x.start ≤ y.start → ¬ (IsTooLong e x)
    → ¬ (IsTooLong e y)
still-fits e x y end on fits long = grind (arith)

-- a search that is too long only gives that refusal
pub refused-alone : (e : Backtracker) (x : Search) (error : SearchError) → IsTooLong e x → IsRefusal e x error
    → error ≡ HaystackTooLong (span_len x)
refused-alone e x error long (inl refused) = refused.1
refused-alone e x error long (inr memory) = absurd (memory.0 long)

-- if the span is not too long, the only error of a search from one of its positions on is `Memory`
pub memory-alone : (e : Backtracker) (x : Search) → ¬ (IsTooLong e x) → (t : Search) (error : SearchError)
    → x.start ≤ t.start → t.end ≡ x.end → IsRefusal e t error → error ≡ Memory
memory-alone e x fits t error from to (inl refused) = absurd (still-fits e x t to from fits refused.0)
memory-alone e x fits t error from to (inr memory) = memory.1

-- a match that is sure to be found is the answer
pub sure-finds : (e : Backtracker) (t : Search) (m : Found) → IsSureAt e t m → IsTryFindAnswer e t (Ok (Some m))
sure-finds e t m sure = (sure.0, sure-match e.nfa LeftmostFirst false t m sure.1)

-- a match that is found is sure for the search from where the last scan started
pub found-sure : {e : Backtracker} {t : Search} {old new : BacktrackCache} (r : Result (Option Match) SearchError)
    (m : Match) → r ≡ Ok (Some m) → IsTryFindAnswer e t (answer_by found_of r)
    → SearchesOnce e t (answer_by found_of r) old new
    → IsSureAt e (raised t (new.scans - 1)) (found_of m)
found-sure {e} {t} {new = new} r m is finds once =
    let found = rw is at finds in
    let exact = once.exact in
    let work = rw is at exact in
    let last = raised t (new.scans - 1) in (
      still-fits e t last refl (omega arith) found.0,
      match-sure e.nfa LeftmostFirst false last (found_of m) (match-from-scan found.1 work),
    )

-- and what is known after it is the match that ends where that scan started
pub known-last : (r : Result (Option Match) SearchError) (start last : ℕ)
    → IfOk r (λ found. IfSome found (λ m. start ≡ last))
    → if_ends_at start (found_in (answer_by found_of r)) ≡ if_ends_at last (found_in (answer_by found_of r))
known-last (Ok (Some m)) start last same = ap (λ (n : ℕ). if_ends_at n (Some (found_of m))) same
known-last (Ok None) start last same = refl
known-last (Err error) start last same = refl

-- What a search refuses, counts and grows.
module _ {e : Backtracker} {x : Search} {needed : ℕ} {old new : BacktrackCache} where
  -- it answers only if the span is not too long
  pub counted-fits : {Y : Type 0} {y : Y} → IsCounted e x needed (Ok y) old new → ¬ (IsTooLong e x)
  counted-fits c = λ long. let k = c.too_long.1 long in cc

  -- and an error is a refusal
  pub counted-refusal : {Y : Type 0} {error : SearchError} → IsCounted {Y = Y} e x needed (Err error) old new
      → IsRefusal e x error
  counted-refusal {Y} c = grind (arith)

  -- so a reply is the answer of a search
  pub found-tells : (r : Result (Option Match) SearchError)
      → IfOk r (λ found. IsFindAnswer e.nfa LeftmostFirst false x (option_map found_of found))
      → IsCounted e x needed r old new → IsTryFindAnswer e x (answer_by found_of r)
  found-tells (Ok (Some m)) answer c = (counted-fits c, answer)
  found-tells (Ok None) answer c = (counted-fits c, answer)
  found-tells (Err error) answer c = counted-refusal c

-- what is counted of a reply, for the answer that it shows
pub once-by : {X Y : Type 0} {e : Backtracker} {x : Search} {needed : ℕ} {r : Result Y SearchError}
    {old new : BacktrackCache} {a : Answer X} → IsCounted e x needed r old new → Counts a old new → DoesWork e x a new
    → needed ≤ 2 * length e.nfa.groups → SearchesOnce e x a old new
once-by c counts exact few = grind (arith)

-- a match is counted as what it is
pub found-once : {e : Backtracker} {x : Search} {old new : BacktrackCache} (r : Result (Option Match) SearchError)
    → IsCounted e x (2 * length e.nfa.groups) r old new → SearchesOnce e x (answer_by found_of r) old new
found-once (Ok (Some m)) c = once-by c c.answered c.work (omega arith)
found-once (Ok None) c = once-by c c.answered c.work (omega arith)
found-once (Err error) c = once-by c c.refused c.within (omega arith)

-- a match that is found is inside the span
pub find-lies : (e : Backtracker) (t : Search) (a : Answer Found) → IsTryFindAnswer e t a
    → AnswerIsInside span_of t a × IsOrdered (answer_span span_of a)
find-lies e t (Ok found) h = match-lies e.nfa LeftmostFirst false t (Ok found) h.1
find-lies e t (Err error) h = (tt, λ p is. let never : None ≡ Some p = is in cc)

-- ---- the engine

-- the backtracker with its answers
abbrev pub back_engine : {X : Type 0} → (Backtracker → Search → Answer X → Type 0)
    → EngineOf Backtracker BacktrackCache X
back_engine tells = record {
  nfa = λ e. e.nfa;
  Fits = fits_always;
  Tells = tells;
  Work = λ e x a. SearchesOnce e x a;
  scans = backtracker_scans;
  stays = λ e x a old new work fits. tt;
}

abbrev pub back_finder : FinderOf Backtracker Finder BacktrackCache
back_finder = record {
  engine = back_engine IsTryFindAnswer;
  shown = backtracker_knowing;
  Sure = IsSureAt;
  sure = sure-finds;
}

abbrev pub back_finds : SearchesOf Backtracker (Keeping BacktrackCache) (WithCache Finder BacktrackCache) Found
back_finds = finds_by back_finder

-- its items
abbrev pub back_items : ItemsOf (WithCache Finder BacktrackCache) Found Match
back_items = items_as span_of found_of

-- what it answers
abbrev pub back_answers : (e : Backtracker) (x : Search)
    → AnswersOf (WithCache Finder BacktrackCache) x (IsTryFindAnswer e)
back_answers e x = answers_as back_finds e x (IsTryFindAnswer e) (λ t a same h. h)

-- its iterator
abbrev pub find_shell
    : ShellOf (TakesStepWith span_of AsksBacktracker (λ _. GivesItem found_of)) (λ (i : Result Match SearchError). i)
    TryFindMatches
find_shell = plain_shell backtrack_matches_next backtrack_matches (λ s r t st. st.takes)

-- it may search in every state
pub find-serves : (s : TryFindMatches)
    → can_step MayFindByBacktracker AsksBacktracker span_of (steps_with_state (backtrack_matches s))
find-serves s = searches-serve back_finds (AnswerIsInside span_of) (λ e t a h. (find-lies e t a h).0)
    (steps_with_state (backtrack_matches s)).backend (steps_iter_state (backtrack_matches s).steps).at
    (record { fits = tt; knows = s.knows })

-- and goes on after a step
pub step-goes : (s : TryFindMatches) (r : Option (Result Match SearchError))
    (t : Steps (WithCache Finder BacktrackCache))
    → takes_steps span_of AsksBacktracker (λ q. GivesItem found_of) (steps_with_state (backtrack_matches s)) r t
    → MayFindByBacktracker t.backend (steps_iter_state t).at
step-goes s r t st = step-may back_finds back_items (steps_with_state (backtrack_matches s)) r t st
    (record { fits = tt; knows = s.knows })

-- ---- the cache

-- the searches of an iteration, seen with the cache and what is known
abbrev Looks : Backtracker → Keeping BacktrackCache → Search → Answer Found → Keeping BacktrackCache → Type 0
Looks e = asks_keeping (IsTryFindAnswer e) (λ y a. SearchesOnce e y a) backtracker_scans

-- a first search that is too long is refused early, and is the only one
module _ (e : Backtracker) (x : Search) (long : IsTooLong e x) (old : BacktrackCache) where
  abbrev begun : Keeping BacktrackCache
  begun = record { cache = old; known = None }

  step-early : (a : Answer Found) (q : Keeping BacktrackCache) (v : IterState)
      → Advances span_of (Looks e) begun (fresh x) a q v
      → (error : SearchError) × (a ≡ Err error) × (q.cache ≡ refused_early old)
  step-early a q v step = grind (arith)

  steps-early : (a : Answer Found) (more : List (Answer Found)) (q : Keeping BacktrackCache)
      → StepsLead span_of (Looks e) (fresh x) begun (a ∷ more) q → q.cache ≡ refused_early old
  steps-early (Ok (Some m)) more q h =
      let k = step-early (Ok (Some m)) h.0 h.1 h.2 in let never = k.1 in cc
  steps-early (Ok None) more q h = (step-early (Ok None) q h.0 h.1).2
  steps-early (Err error) more q h = (step-early (Err error) q h.0 h.1).2

-- the cache may change in any way
abbrev any_kept : KeptBy AsksBacktracker
any_kept = record {
  Keeps = λ c d. Unit {0};
  self = λ c. tt;
  then = λ a b c f g. tt;
  asked = λ s x a t asked. tt;
}

-- An iterator of e that begins at x.
module _ (e : Backtracker) (x : Search) (s : TryFindMatches) (engine : s.steps.backend.engine.now ≡ e)
    (iter_state : steps_iter_state (backtrack_matches s).steps ≡ fresh x) (going : s.steps.done ≡ false) where
  pub finds-begin : Begins (SearchesAs back_finds e) x (steps_with_state (backtrack_matches s))
  finds-begin = record { iter_state = iter_state; going = going; good = engine }

  -- the calls change the cache only by their searches
  pub finds-searches : s.steps.backend.known ≡ None → FindsBySearches e x s
  finds-searches known = record {
    keeps = λ xs t r u ran st.
        let kept = calls-kept any_kept find_shell s in (kept xs t r u ran st).cache;
    on = finds-leave back_finder (steps_in find_shell) e s finds-begin known;
    early = λ xs t r u ran st long.
        let lead = calls-lead back_finds back_items (steps_in find_shell) in
        let first = rw (known, iter_state) at (calls-leave back_finds back_items e
        (steps_with_state (backtrack_matches s)) (steps_with_state (backtrack_matches u)) (going, engine)
        (lead xs s t r u ran st)) in
        steps-early e x long s.cache.now first.0 first.1 _ first.2;
    to_end = λ xs t u ms ran st is.
        let to_end = finds-to_end back_finder (steps_in find_shell) e s finds-begin known in
        to_end xs ms t u (same-items xs ∙ is) ran st;
  }

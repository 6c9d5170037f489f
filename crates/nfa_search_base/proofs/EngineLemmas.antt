-- An engine that answers the searches of an iteration, as one value: what its searches need, answer and leave.
use Rattle.nfa_paths.proofs.Common.{arith, ◌≡◌, ◌∙◌, ℕ, Bool, true, false, Option, None, Some, Result, Ok, Err, refl, sym, ap, subst, ◌⊎◌, IfErr, IfOk, IsTrue, is_some, ForSome, option_map, Found, found_of, Search, Match, MatchKind, Span, Automaton, IsFindAnswer}
use Rattle.nfa_search_base.specs.Common.{SameButStart, WithCaptures, Row, AsksEngine, AsksEngineRow, IsKnownFrom, Keeping, Knowing, MayFill, MayFind, SearchesUnlessKnown, found_in, if_ends_at, keeping, last_start, answer_by, WithCache, KeepsStepsWith, TakesStepWith, GivesKept, AnswersMatch, ServesOnAlong, steps_iter_state, takes_steps, Answer, IsInfalliblyInside, span_of, SearchError, Steps}
use Rattle.nfa_search_base.proofs.AskingLemmas.{ServesOnAlong-by}
use Rattle.nfa_search_base.proofs.ItemLemmas.{ItemsOf, StepsBy, ShellOf}
use Rattle.nfa_search_base.proofs.ListLemmas.{match-lies}
use Rattle.nfa_search_base.proofs.RunLemmas.{AnswersOf, calls-keep, step-holds}
use Rattle.nfa_search_base.proofs.StepLemmas.{chosen}

-- ---- searches that differ in their start

-- a search like another is that one with a start of its own
like-is : (x t : Search) (start : ℕ) → SameButStart x t → record x { start = start } ≡ record t { start = start }
like-is x t start same = rw (same.haystack, same.end, same.anchored, same.earliest) refl

same_start-back : (x t : Search) → SameButStart x t → SameButStart t x
same_start-back x t same = grind arith

-- ---- matches

-- the match of a search is its answer
pub find-answered : (nfa : Automaton) (kind : MatchKind) (earliest : Bool) (t : Search) (found : Option Match)
    → IsFindAnswer nfa kind earliest t (option_map found_of found)
    → AnswersMatch nfa kind earliest t (answer_by found_of (Ok found))
find-answered nfa kind earliest t (Some m) h = h
find-answered nfa kind earliest t None h = h

-- it is in the span, and is not an error
pub find-lies : (nfa : Automaton) (kind : MatchKind) (earliest : Bool) (t : Search) (a : Answer Found)
    → AnswersMatch nfa kind earliest t a → IsInfalliblyInside span_of t a
find-lies nfa kind earliest t (Ok found) h = ((match-lies nfa kind earliest t (Ok found) h).0, refl)
find-lies nfa kind earliest t (Err error) h = absurd h

-- the match of a reply is that of its answer
pub found-by : (r : Result (Option Match) SearchError) (found : Option Match) → IfOk r (λ o. found ≡ o)
    → (IfErr r (λ e. found ≡ None)) → option_map found_of found ≡ found_in (answer_by found_of r)
found-by (Ok (Some m)) found ok err = ap (λ (o : Option Match). option_map found_of o) ok
found-by (Ok None) found ok err = ap (λ (o : Option Match). option_map found_of o) ok
found-by (Err e) found ok err = ap (λ (o : Option Match). option_map found_of o) err

-- ---- the match that is known

module _ {C : Type 0} {Work : Search → Answer Found → C → C → Type 0} {scans : C → ℕ} {x : Search} where
  -- if no match that is known is the answer, a search is made
  pub search-made : {a : Answer Found} {s t : Keeping C} (kept : Option Match)
      → option_map found_of kept ≡ if_ends_at x.start s.known → is_some kept ≡ false → Work x a s.cache t.cache
      → t.known ≡ if_ends_at (last_start x (scans t.cache)) (found_in a) → SearchesUnlessKnown Work scans x a s t
  search-made None is none work known = record { by_known = rw (← is) (work, known) }
  search-made (Some m) is none work known = let k : true ≡ false = none in cc

  -- so the cache is the same, or was searched with
  pub same-or-made : {a : Answer Found} {s t : Keeping C} → SearchesUnlessKnown Work scans x a s t
      → (t.cache ≡ s.cache) ⊎ Work x a s.cache t.cache
  same-or-made {a = a} {s = s} {t = t} made = grind (arith)

-- ---- an engine as a value

-- An engine E that searches with a cache C, and answers with an X.
pub record EngineOf (E C X : Type 0) : Type 1 where
  -- its NFA
  pub nfa : E → Automaton
  -- the cache fits the engine
  pub Fits : C → E → Type 0
  -- the answer that a search gives, and what the search does with the cache, which counts its scans
  pub Tells : E → Search → Answer X → Type 0
  pub Work : E → Search → Answer X → C → C → Type 0
  pub scans : C → ℕ
  -- a cache that fits does so after a search
  pub stays : (e : E) (x : Search) (a : Answer X) (old new : C) → Work e x a old new → Fits old e → Fits new e

-- An engine of an iteration that may know the match of its next search, `shown` by an A.
pub record FinderOf (E A C : Type 0) : Type 1 where
  pub engine : EngineOf E C Found
  pub shown : A → Knowing E
  -- the match is the only one that a search can find, and so its answer
  pub Sure : E → Search → Found → Type 0
  pub sure : (e : E) (t : Search) (m : Found) → Sure e t m → engine.Tells e t (Ok (Some m))

-- The searches of an iteration whose state is an S, by the engine in the state.
pub record SearchesOf (E C S X : Type 0) : Type 1 where
  -- the engine, and what its searches change
  pub engine : S → E
  pub cache : S → C
  -- a search, and when it may be made
  pub asks : S → Search → Answer X → S → Type 0
  pub May : S → Search → Type 0
  -- the answer that a search gives, and what it does with the cache
  pub Tells : E → Search → Answer X → Type 0
  pub Work : E → Search → Answer X → C → C → Type 0
  -- each search does so, and keeps the engine
  pub tells : (s : S) (t : Search) (a : Answer X) (s' : S) → asks s t a s' → Tells (engine s) t a
  pub works : (s : S) (t : Search) (a : Answer X) (s' : S) → asks s t a s' → Work (engine s) t a (cache s) (cache s')
  pub stays : (s : S) (t : Search) (a : Answer X) (s' : S) → asks s t a s' → engine s' ≡ engine s
  -- a search like it may be made too, and another one after it
  pub like : (s : S) (x t : Search) → SameButStart x t → May s x → May s t
  pub goes : (s : S) (t : Search) (a : Answer X) (s' : S) → May s t → asks s t a s' → May s' t

module _ {E C S X : Type 0} (searches : SearchesOf E C S X) where
  -- e searches
  abbrev pub SearchesAs : E → S → Type 0
  SearchesAs e s = searches.engine s ≡ e

  -- it gives the answer of its search, does the search's work, and goes on to search
  pub searches-as : (e : E) (s : S) (t : Search) (a : Answer X) (s' : S) → SearchesAs e s → searches.asks s t a s'
      → searches.Tells e t a × searches.Work e t a (searches.cache s) (searches.cache s') × SearchesAs e s'
  searches-as e s t a s' is asked = grind (arith)

  -- its answers, as its contract says
  abbrev pub answers_as : (e : E) (x : Search) (tells : Search → Answer X → Type 0)
      → ((t : Search) (a : Answer X) → SameButStart x t → searches.Tells e t a → tells t a) → AnswersOf S x tells
  answers_as e x tells given = record {
    asks = searches.asks;
    Good = SearchesAs e;
    acts = λ s t a s' same is asked.
        let k = searches-as e s t a s' is asked in (given t a same k.0, k.2);
  }

  -- a search on one like x leaves what the next one needs
  after-like : (x : Search) (s : S) (t : Search) (a : Answer X) (s' : S) → SameButStart x t → searches.May s x
      → searches.asks s t a s' → searches.May s' x
  after-like x s t a s' same may asked =
      searches.like s' t x (same_start-back x t same) (searches.goes s t a s' (searches.like s x t same may) asked)

  -- the iterator may search wherever searches like x lead
  pub searches-serve : (P : Search → Answer X → Type 0)
      → ((e : E) (t : Search) (a : Answer X) → searches.Tells e t a → P t a) → (s : S) (x : Search) → searches.May s x
      → ServesOnAlong searches.May searches.asks SameButStart P s x
  searches-serve P lies s x may = ServesOnAlong-by (λ (q : S). searches.May q x) s x may
      (λ q t same may. searches.like q x t same may)
      (λ q t a q' same may asked. (
        lies (searches.engine q) t a (searches.tells q t a q' asked),
        after-like x q t a q' same may asked,
      ))

  -- and after a step
  pub step-may : {Y : Type 0} (items : ItemsOf S X Y) (s : Steps S) (r : Option (Result Y SearchError)) (t : Steps S)
      → StepsBy items searches.asks s r t → searches.May s.backend (steps_iter_state s).at
      → searches.May t.backend (steps_iter_state t).at
  step-may items s r t st may = grind (arith, chosen, step-holds, after-like)

  -- the engine stays the same
  pub step-stays : {Y : Type 0} (items : ItemsOf S X Y) (e : E) (s : Steps S) (r : Option (Result Y SearchError))
      (t : Steps S) → StepsBy items searches.asks s r t → SearchesAs e s.backend → SearchesAs e t.backend
  step-stays items e s r t st is = grind (arith, chosen, step-holds, searches-as)

-- ---- engines that keep what they know

module _ {E A C : Type 0} (finder : FinderOf E A C) where
  -- what is known of searches is known of the ones like them
  known-like : (e : E) (x t : Search) (known : Option Match) → SameButStart x t → IsKnownFrom finder.Sure e x known
      → IsKnownFrom finder.Sure e t known
  known-like e x t known same knows = λ m is. rw (← like-is x t m.span.end same) (knows m is)

  -- the match that is known answers, if there is one
  pub known-answer : (e : E) (t : Search) (known kept : Option Match) → IsKnownFrom finder.Sure e t known
      → ForSome kept (λ m. (known ≡ Some m) × (m.span.end ≡ t.start)) → IsTrue (is_some kept)
      → finder.engine.Tells e t (answer_by found_of (Ok kept))
  known-answer e t known None knows ends some = let k : false ≡ true = some in cc
  known-answer e t known (Some m) knows ends some =
      let k = ends m refl in
      let here : record t { start = m.span.end } ≡ t = ap (λ (n : ℕ). record t { start = n }) k.1 in
      finder.sure e t (found_of m) (subst (λ (y : Search). finder.Sure e y (found_of m)) here (knows m k.0))

  -- a match is known for the searches from where it ends if it is sure there
  pub known-kept : (e : E) (t : Search) (start : ℕ) (kept : Option Match)
      → ForSome kept (λ m. finder.Sure e (record t { start = start }) (found_of m) × (m.span.end ≡ start))
      → IsKnownFrom finder.Sure e t kept
  known-kept e t start kept ends = λ m is.
      let k = ends m is in
      subst (λ (n : ℕ). finder.Sure e (record t { start = n }) (found_of m)) (sym k.1) k.0

  abbrev Asks : WithCache A C → Search → Answer Found → WithCache A C → Type 0
  Asks = AsksEngine finder.Sure finder.shown finder.engine.Tells finder.engine.Work finder.engine.scans

  abbrev May : WithCache A C → Search → Type 0
  May = MayFind finder.Sure finder.shown finder.engine.Fits

  -- the match that is known is the answer, if it ends at the start
  pub asks-known : {s : WithCache A C} {x : Search} {start : ℕ} (kept : Option Match) → start ≡ x.start → May s x
      → ForSome kept (λ m. ((finder.shown s.backend).known ≡ Some m) × (m.span.end ≡ start))
      → option_map found_of kept ≡ if_ends_at start (keeping finder.shown s).known → IsTrue (is_some kept)
      → Asks s x (answer_by found_of (Ok kept)) s
  asks-known None here may ends exactly some = let k : false ≡ true = some in cc
  asks-known {s} {x} (Some m) here may ends exactly some =
      let k = finder.shown s.backend in
      record {
        finds = known-answer k.engine x k.known (Some m) may.knows (λ n is. rw (← here) (ends n is)) some;
        engine = refl;
        knows = may.knows;
        work = record { by_known = rw (← here, ← exactly) (refl, refl) };
      }

  pub find-like : (s : WithCache A C) (x t : Search) → SameButStart x t → May s x → May s t
  find-like s x t same may = grind (arith, known-like)

  pub find-goes : (s : WithCache A C) (t : Search) (a : Answer Found) (s' : WithCache A C) → May s t → Asks s t a s'
      → May s' t
  find-goes s t a s' may asked = grind (arith, same-or-made)

  -- its searches, unless their match is known
  abbrev pub finds_by : SearchesOf E (Keeping C) (WithCache A C) Found
  finds_by = record {
    engine = λ s. (finder.shown s.backend).engine;
    cache = λ s. keeping finder.shown s;
    asks = Asks;
    May = May;
    Tells = finder.engine.Tells;
    Work = λ e. SearchesUnlessKnown (finder.engine.Work e) finder.engine.scans;
    tells = λ s t a s' asked. asked.finds;
    works = λ s t a s' asked. asked.work;
    stays = λ s t a s' asked. asked.engine;
    like = find-like;
    goes = find-goes;
  }

-- ---- engines that fill captures

module _ {E C : Type 0} (engine : EngineOf E C Row) where
  abbrev AsksRow : WithCache (WithCaptures E) C → Search → Answer Row → WithCache (WithCaptures E) C → Type 0
  AsksRow = AsksEngineRow engine.nfa engine.Tells engine.Work

  pub fill-goes : (s : WithCache (WithCaptures E) C) (x : Search) (a : Answer Row) (t : WithCache (WithCaptures E) C)
      → MayFill engine.nfa engine.Fits s → AsksRow s x a t → MayFill engine.nfa engine.Fits t
  fill-goes s x a t may asked = grind (arith)

  -- its searches
  abbrev pub fills_by : SearchesOf E C (WithCache (WithCaptures E) C) Row
  fills_by = record {
    engine = λ s. s.backend.finder;
    cache = λ s. s.cache;
    asks = AsksRow;
    May = λ s x. MayFill engine.nfa engine.Fits s;
    Tells = engine.Tells;
    Work = engine.Work;
    tells = λ s t a s' asked. asked.tells;
    works = λ s t a s' asked. asked.work;
    stays = λ s t a s' asked. asked.engine;
    like = λ s x t same may. may;
    goes = fill-goes;
  }

-- ---- what stays of a cache

-- What each search of an iteration keeps of its cache.
pub record KeptBy {A C X : Type 0} (asks : WithCache A C → Search → Answer X → WithCache A C → Type 0) : Type 1 where
  pub Keeps : C → C → Type 0
  pub self : (c : C) → Keeps c c
  pub then : (a b c : C) → Keeps a b → Keeps b c → Keeps a c
  pub asked : (s : WithCache A C) (x : Search) (a : Answer X) (t : WithCache A C) → asks s x a t
      → Keeps s.cache t.cache

module _ {A C X Y : Type 0} {asks : WithCache A C → Search → Answer X → WithCache A C → Type 0} (kept : KeptBy asks)
    (span : X → Span) (gives : WithCache A C → Answer X → Option (Result Y SearchError) → Type 0) where
  -- its steps keep that
  pub steps-keep : (s : Steps (WithCache A C)) (r : Option (Result Y SearchError)) (t : Steps (WithCache A C))
      → takes_steps span asks gives s r t → kept.Keeps s.backend.cache t.backend.cache
  steps-keep s r t st = grind (arith, chosen, step-holds)

-- and so do all calls of an iterator around such steps
module _ {A C X Y T R : Type 0} {span : X → Span} {asks : WithCache A C → Search → Answer X → WithCache A C → Type 0}
    {gives : A → Answer X → Option (Result Y SearchError) → Type 0} {item : R → Result Y SearchError}
    (kept : KeptBy asks) (shell : ShellOf (TakesStepWith span asks gives) item T) where
  abbrev Kept : T → T → Type 0
  Kept p q = KeepsStepsWith kept.Keeps (shell.inner p) (shell.inner q)

  call-keeps : (s : T) (r : Option R) (t : T) → shell.calls s r t → Kept s t
  call-keeps s r t call = grind (arith, steps-keep)

  pub calls-kept : (s : T) → GivesKept shell.calls Kept s
  calls-kept s = calls-keep shell.calls Kept
      (λ p. record { cache = refl; keeps = kept.self (shell.inner p).cache.now })
      (λ a b c f g. record {
        cache = g.cache ∙ f.cache;
        keeps = kept.then (shell.inner a).cache.now (shell.inner b).cache.now (shell.inner c).cache.now f.keeps g.keeps;
      })
      call-keeps s

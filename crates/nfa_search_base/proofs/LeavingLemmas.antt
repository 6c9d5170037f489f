-- What the calls of an iterator leave of what its searches change, seen as less than the iterator keeps.
use Rattle.nfa_paths.proofs.Common.{◌≡◌, false, refl, Option, None, Some, Result, Ok, Err, List, [], ◌∷◌, map, IfOk, option_map, found_of, Search, Match}
use Rattle.nfa_search_base.specs.Common.{CallsLead, DrainsAll, DoesSearch, FindsLeave, FindsLeaveAtEnd, Leaves, LeavesAtEnd, StepsLead, answers_to_end, GivesKept, steps_iter_state, Advances, Answer, IterState, span_of, Yields, SearchError, Steps}
use Rattle.nfa_search_base.proofs.EngineLemmas.{FinderOf, SearchesAs, SearchesOf, finds_by, searches-as}
use Rattle.nfa_search_base.proofs.ItemLemmas.{ItemsOf, StepsBy, items_as, ShellOf, yields-inner}
use Rattle.nfa_search_base.proofs.RunLemmas.{Begins, no-more}
use Rattle.nfa_search_base.proofs.StepLemmas.{step-shown, step-taken}

-- The engine e searches.
module _ {E C S X Y : Type 0} (searches : SearchesOf E C S X) (items : ItemsOf S X Y) (e : E) where
  abbrev steps : Steps S → Option (Result Y SearchError) → Steps S → Type 0
  steps = StepsBy items searches.asks

  -- a search, by what it does with the cache
  abbrev Does : C → Search → Answer X → C → Type 0
  Does = DoesSearch (searches.Tells e) (searches.Work e)

  abbrev cache_in : Steps S → C
  cache_in s = searches.cache s.backend

  -- an iteration over x led from cache to cache by such searches, and to its end past these matches
  abbrev pub LeavesBy : Search → C → C → Type 0
  LeavesBy = Leaves items.span Does

  abbrev pub LeavesAtEndBy : Search → List X → C → C → Type 0
  LeavesAtEndBy = LeavesAtEnd items.span Does

  abbrev Leads : IterState → C → List (Answer X) → C → Type 0
  Leads = StepsLead items.span Does

  acts : (s : S) (t : Search) (a : Answer X) (s' : S) → SearchesAs searches e s → searches.asks s t a s'
      → Does (searches.cache s) t a (searches.cache s') × SearchesAs searches e s'
  acts s t a s' is asked = let k = searches-as searches e s t a s' is asked in (record { tells = k.0; work = k.1 }, k.2)

  says : (s : S) (a : Answer X) (y : Y) → items.gives s a (Some (Ok y)) → a ≡ Ok (Some (items.view y))
  says s a y gives = items.says (λ b. Unit {0}) s a (Some (Ok y)) gives tt

  advance-cache : {s s' : S} {w w' : IterState} {a : Answer X} → SearchesAs searches e s
      → Advances items.span searches.asks s w a s' w'
      → Advances items.span Does (searches.cache s) w a (searches.cache s') w' × SearchesAs searches e s'
  advance-cache = step-shown searches.cache (SearchesAs searches e) (λ q t b q' same. acts q t b q')

  only : {w v : IterState} {p q : C} (a : Answer X) → Advances items.span Does p w a q v → Leads w p (a ∷ []) q
  only {v = v} {q = q} (Ok (Some x)) step = (q, v, step, refl)
  only {v = v} (Ok None) step = (v, step, refl)
  only {v = v} (Err error) step = (v, step, refl)

  -- the iterator has not ended
  abbrev pub IsGoing : Steps S → Type 0
  IsGoing s = (s.done ≡ false) × SearchesAs searches e s.backend

  from : (xs : List (Result Y SearchError)) (s t u : Steps S) (r : Option (Result Y SearchError)) → IsGoing s
      → Yields steps s xs t → steps t r u
      → (first : Answer X) × (rest : List (Answer X)) × Leads (steps_iter_state s) (cache_in s) (first ∷ rest)
      (cache_in u)
  from [] s t u r on ran st =
      let last : steps s r u = rw ran st in
      let one = step-taken on.0 last in
      (one.answer, [], only one.answer (advance-cache on.1 one.step).0)
  from (Ok y ∷ xs) s t u r on ran st =
      let q = ran.0 in
      let one = step-taken on.0 ran.1 in
      let k = advance-cache on.1 one.step in
      let rest = from xs q t u r (one.ends, k.1) ran.2 st in
      let is : one.answer ≡ Ok (Some (items.view y)) = says q.backend one.answer y one.item in
      (Ok (Some (items.view y)), rest.0 ∷ rest.1, (cache_in q, steps_iter_state q, rw is at k.0, rest.2))
  from (Err error ∷ xs) s t u r on ran st =
      let q = ran.0 in
      let one = step-taken on.0 ran.1 in
      let over = no-more items searches.asks xs q t one.ends ran.2 in
      let ended = rw one.ends at (rw over.1 at st) in
      (one.answer, [], rw ended.1 (only one.answer (advance-cache on.1 one.step).0))

  -- what calls leave of an iterator that goes on
  pub calls-leave : (s u : Steps S) → IsGoing s → CallsLead steps s u
      → (first : Answer X) × (rest : List (Answer X)) × Leads (steps_iter_state s) (cache_in s) (first ∷ rest)
      (cache_in u)
  calls-leave s u on lead = from lead.items s lead.last u lead.item on lead.ran lead.over

  -- and what they leave if they go on to none
  pub all-leave : (ys : List Y) (s t u : Steps S) → IsGoing s → Yields steps s (map Ok ys) t → steps t None u
      → Leads (steps_iter_state s) (cache_in s) (answers_to_end (map items.view ys)) (cache_in u)
  all-leave [] s t u on ran st =
      let last : steps s None u = rw ran st in
      let one = step-taken on.0 last in
      let is : one.answer ≡ Ok None = items.says (λ b. Unit {0}) u.backend one.answer None one.item tt in
      (steps_iter_state u, rw is at (advance-cache on.1 one.step).0, refl)
  all-leave (y ∷ ys) s t u on ran st =
      let q = ran.0 in
      let one = step-taken on.0 ran.1 in
      let k = advance-cache on.1 one.step in
      let is : one.answer ≡ Ok (Some (items.view y)) = says q.backend one.answer y one.item in
      (cache_in q, steps_iter_state q, rw is at k.0, all-leave ys q t u (one.ends, k.1) ran.2 st)

-- ---- steps

module _ {E C S X Y : Type 0} (searches : SearchesOf E C S X) (items : ItemsOf S X Y) (e : E) {x : Search} {s : Steps S}
    (begins : Begins (SearchesAs searches e) x s) where
  -- the cache changes only by the searches of the steps
  pub steps-leave : (t : Steps S) → CallsLead (StepsBy items searches.asks) s t
      → LeavesBy searches items e x (searches.cache s.backend) (searches.cache t.backend)
  steps-leave t lead =
      let k = calls-leave searches items e s t (begins.going, begins.good) lead in
      record { answers = k.0 ∷ k.1; steps = rw begins.iter_state at k.2 }

  -- and past all matches if they go on to none
  pub steps-to_end : (ys : List Y) (t : Steps S) → DrainsAll (StepsBy items searches.asks) s ys t
      → LeavesAtEndBy searches items e x (map items.view ys) (searches.cache s.backend) (searches.cache t.backend)
  steps-to_end ys t all =
      let leave = all-leave searches items e ys s all.last t in
      record { steps = rw begins.iter_state at (leave (begins.going, begins.good) all.ran all.over) }

  -- and so if a result holds them
  pub all-to_end : {V : Type 0} (r : Result V SearchError) (ys : V → List Y) (t : Steps S)
      → IfOk r (λ v. DrainsAll (StepsBy items searches.asks) s (ys v) t)
      → IfOk r (λ v. LeavesAtEndBy searches items e x (map items.view (ys v)) (searches.cache s.backend)
      (searches.cache t.backend))
  all-to_end (Ok v) ys t all = steps-to_end (ys v) t all
  all-to_end (Err error) ys t all = tt

-- ---- iterators around steps

module _ {E C S X Y T R : Type 0} (searches : SearchesOf E C S X) (items : ItemsOf S X Y)
    {item : R → Result Y SearchError} (shell : ShellOf (StepsBy items searches.asks) item T) where
  -- calls of the shell are calls of the steps
  pub calls-lead : (xs : List R) (s t : T) (r : Option R) (u : T) → Yields shell.calls s xs t → shell.calls t r u
      → CallsLead (StepsBy items searches.asks) (shell.inner s) (shell.inner u)
  calls-lead xs s t r u ran st = record {
    items = map item xs;
    last = shell.inner t;
    item = option_map item r;
    ran = yields-inner shell xs s t ran;
    over = shell.is t r u st;
  }

  module _ (e : E) {x : Search} (s : T) (begins : Begins (SearchesAs searches e) x (shell.inner s)) where
    -- the cache changes only by the searches of the calls
    pub shell-leaves : GivesKept shell.calls (λ p q. LeavesBy searches items e x
        (searches.cache (shell.inner p).backend) (searches.cache (shell.inner q).backend)) s
    shell-leaves = λ xs t r u ran st.
        steps-leave searches items e begins (shell.inner u) (calls-lead xs s t r u ran st)

    -- and past all matches if they go on to none
    pub shell-to_end : (xs : List R) (ys : List Y) (t u : T) → map item xs ≡ map (λ y. Ok y) ys
        → Yields shell.calls s xs t → shell.calls t None u
        → LeavesAtEndBy searches items e x (map items.view ys)
        (searches.cache (shell.inner s).backend) (searches.cache (shell.inner u).backend)
    shell-to_end xs ys t u same ran st =
        steps-to_end searches items e begins ys (shell.inner u) (record {
          last = shell.inner t;
          ran = rw same at (yields-inner shell xs s t ran);
          over = shell.is t None u st;
        })

-- ---- engines that keep what they know

module _ {E A C T R : Type 0} (finder : FinderOf E A C) {item : R → Result Match SearchError}
    (shell : ShellOf (StepsBy (items_as span_of found_of) (finds_by finder).asks) item T) (e : E) {x : Search} (s : T)
    (begins : Begins (SearchesAs (finds_by finder) e) x (shell.inner s)) where
  -- the cache, and the match that is known, in an iterator
  abbrev cache_of : T → C
  cache_of q = (shell.inner q).backend.cache

  abbrev known_to : T → Option Match
  known_to q = (finder.shown (shell.inner q).backend.backend).known

  -- an iteration that knew nothing leaves the cache of its searches
  pub finds-leave : known_to s ≡ None → GivesKept shell.calls (λ p q. FindsLeave (finder.engine.Tells e)
      (finder.engine.Work e) finder.engine.scans x (cache_of p) (cache_of q)) s
  finds-leave known = λ xs t r u ran st.
      let leaves = shell-leaves (finds_by finder) (items_as span_of found_of) shell e s begins in
      record { known = option_map found_of (known_to u); left = rw known at (leaves xs t r u ran st) }

  pub finds-to_end : known_to s ≡ None → (xs : List R) (ms : List Match) (t u : T) → map item xs ≡ map (λ m. Ok m) ms
      → Yields shell.calls s xs t → shell.calls t None u
      → FindsLeaveAtEnd (finder.engine.Tells e) (finder.engine.Work e) finder.engine.scans x (map found_of ms)
      (cache_of s) (cache_of u)
  finds-to_end known xs ms t u same ran st =
      let to_end = shell-to_end (finds_by finder) (items_as span_of found_of) shell e s begins in
      record { known = option_map found_of (known_to u); left = rw known at (to_end xs ms t u same ran st) }

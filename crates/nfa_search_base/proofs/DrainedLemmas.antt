-- What an engine's steps over captures give, if they go on until `None` or an error.
use Rattle.nfa_paths.proofs.Common.{◌≡◌, ◌∙◌, ◌≤◌, Bool, MatchKind, false, refl, None, Some, Option, ◌⊎◌, inl, inr, replicate, Result, Ok, Err, List, [], ◌∷◌, ◌++◌, map, All, IfErr, IfOk, length-replicate, All-cons, All-head, All-nil, All-tail, slot_count, Search, Captured, Automaton, arith}
use Rattle.std.proofs.iter.runs.Made.{run_of_exit, run_of_turn}
use Rattle.nfa_search_base.specs.Common.{CapturesGiven, Yields, Row, WithCaptures, row_of, row_span, AreRows, HasGroups, CapturesInside, match_in, CallsLead, DrainsAll, DrainsToError, AreDisjoint, AreMatches, MayFill, can_step, steps_iter_state, WithCache, with_cache, Answer, AnswerIsInside, fresh, SearchError, Memory, Steps}
use Rattle.nfa_search_base.proofs.CapturesRunLemmas.{CapturesSteps, RowsOf, captures-given, captures-memory}
use Rattle.nfa_search_base.proofs.EngineLemmas.{EngineOf, KeptBy, SearchesAs, SearchesOf, fills_by, searches-serve, step-may, steps-keep}
use Rattle.nfa_search_base.proofs.ItemLemmas.{ItemsOf, StepsBy, copies_of, no_shell}
use Rattle.nfa_search_base.proofs.LeavingLemmas.{LeavesAtEndBy, LeavesBy, all-to_end, steps-leave}
use Rattle.nfa_search_base.proofs.OkItemLemmas.{oked-more}
use Rattle.nfa_search_base.proofs.RunLemmas.{Begins, calls-keep}

-- captures that were made for an NFA have its groups
pub made-holds : (nfa : Automaton) (c : Captured)
    → c ≡ record { groups = nfa.groups; pattern = None; slots = replicate (slot_count nfa.groups) None }
    → HasGroups nfa c
made-holds nfa c made = rw made (record { groups = refl; count = length-replicate (slot_count nfa.groups) None })

-- what is true of each `Ok` is true of each value
all_ok : {X E : Type 0} (P : X → Type 0) (xs : List X) → All (λ (item : Result X E). IfOk item P) (map Ok xs) → All P xs
all_ok P [] h = All-nil P
all_ok {X} {E} P (x ∷ xs) h =
    let each : Result X E → Type 0 = λ item. IfOk item P in
    All-cons P x xs (All-head each (Ok x) (map Ok xs) h) (all_ok P xs (All-tail each (Ok x) (map Ok xs) h))

-- what is true of all is true of the last one
pub all-last : {X : Type 0} (P : X → Type 0) (xs : List X) (x : X) → All P (xs ++ x ∷ []) → P x
all-last P [] x h = All-head P x [] h
all-last P (y ∷ ys) x h = all-last P ys x (All-tail P y (ys ++ x ∷ []) h)

-- what each search keeps of the cache, the calls keep
module _ {A C X Y : Type 0} {asks : WithCache A C → Search → Answer X → WithCache A C → Type 0} (kept : KeptBy asks)
    (items : ItemsOf (WithCache A C) X Y) where
  pub calls-cache : (s t : Steps (WithCache A C)) → CallsLead (StepsBy items asks) s t
      → kept.Keeps s.backend.cache t.backend.cache
  calls-cache s t lead =
      let keep = calls-keep (StepsBy items asks) (λ p q. kept.Keeps p.backend.cache q.backend.cache)
      (λ p. kept.self p.backend.cache)
      (λ p q u f g. kept.then p.backend.cache q.backend.cache u.backend.cache f g)
      (steps-keep kept items.span items.gives) in
      keep s lead.items lead.last lead.item t lead.ran lead.over

-- An iterator whose calls give the captures of x.
module _ {nfa : Automaton} {kind : MatchKind} {earliest : Bool} {tells : Search → Answer Row → Type 0} {x : Search}
    {T : Type 0} {steps : T → Option (Result Captured SearchError) → T → Type 0} {s : T}
    (gives : CapturesGiven steps nfa kind earliest tells x s) where
  -- the items of calls that go on to none are the captures of all matches of x, which are in its span, one after the
  -- other
  pub given-drained : (cs : List Captured) (last t : T) → Yields steps s (map Ok cs) last → steps last None t
      → AreRows nfa kind earliest x (map row_of cs)
      × AreMatches nfa kind earliest x (map match_in cs)
      × All (HasGroups nfa) cs × All (CapturesInside x) cs × AreDisjoint x None (map match_in cs)
  given-drained cs last t ran over =
      let run = run_of_exit steps s (map Ok cs) last ran t over in
      let items = run.3.0 in (
        gives.all_rows (map Ok cs) last t cs ran over refl,
        gives.all_matches (map Ok cs) last t cs ran over refl,
        all_ok (HasGroups nfa) cs (rw items at (gives.groups run.0 run.0.seen run.1)),
        all_ok (CapturesInside x) cs (rw items at (gives.inside run.0 run.0.seen run.1)),
        gives.disjoint run.0 run.0.seen run.1 cs items,
      )

  -- the next captures are in the span, after the others
  pub given-turn : (cs : List Captured) (last : T) (c : Captured) (t : T) → Yields steps s (map Ok cs) last
      → steps last (Some (Ok c)) t
      → CapturesInside x c × AreDisjoint x None (map match_in (cs ++ c ∷ []))
  given-turn cs last c t ran over =
      let run = run_of_turn steps s (map Ok cs) last ran (Ok c) t over in
      let items = run.2.0 in (
        all-last (λ item. IfOk item (CapturesInside x)) (map Ok cs) (Ok c)
            (rw items at (gives.inside run.0 run.0.seen run.1)),
        gives.disjoint run.0 run.0.seen run.1 (cs ++ c ∷ []) (items ∙ oked-more cs c),
      )

-- Steps of an engine that begin at x.
module _ {E C S : Type 0} {searches : SearchesOf E C S Row} {captures : S → Captured} {e : E} {x : Search}
    (rows : RowsOf searches captures e x) {s : Steps S} (begins : Begins (SearchesAs searches e) x s) where
  -- the items of calls that go on to none are the captures of all matches of x
  drained : searches.May s.backend (steps_iter_state s).at → (cs : List Captured) (t : Steps S)
      → DrainsAll (CapturesSteps rows) s cs t
      → AreRows rows.nfa rows.kind rows.earliest x (map row_of cs)
      × AreMatches rows.nfa rows.kind rows.earliest x (map match_in cs)
      × All (HasGroups rows.nfa) cs × All (CapturesInside x) cs × AreDisjoint x None (map match_in cs)
  drained may cs t all =
      given-drained (captures-given rows (no_shell (CapturesSteps rows)) s begins may) cs all.last t all.ran all.over

  -- so they are if a result holds them
  pub all-captures : {V : Type 0} → searches.May s.backend (steps_iter_state s).at → (r : Result V SearchError)
      (items : V → List Captured) (t : Steps S) → IfOk r (λ v. DrainsAll (CapturesSteps rows) s (items v) t)
      → IfOk r (λ v. AreRows rows.nfa rows.kind rows.earliest x (map row_of (items v)))
      × IfOk r (λ v. AreMatches rows.nfa rows.kind rows.earliest x (map match_in (items v)))
      × IfOk r (λ v. All (HasGroups rows.nfa) (items v)) × IfOk r (λ v. All (CapturesInside x) (items v))
      × IfOk r (λ v. AreDisjoint x None (map match_in (items v)))
  all-captures may (Ok v) items t all = drained may (items v) t all
  all-captures may (Err error) items t all = (tt, tt, tt, tt, tt)

  -- an error is that of memory, if no search has another
  pub error-captures
      : ((t : Search) (error : SearchError) → x.start ≤ t.start → t.end ≡ x.end → rows.tells t (Err error)
      → error ≡ Memory)
      → (error : SearchError) (t : Steps S) → (error ≡ Memory) ⊎ DrainsToError (CapturesSteps rows) s error t
      → error ≡ Memory
  error-captures memory error t (inl is) = is
  error-captures memory error t (inr ends) =
      let run = run_of_turn (CapturesSteps rows) s (map Ok ends.items) ends.last ends.ran (Err error) t ends.over in
      let errors = captures-memory rows (no_shell (CapturesSteps rows)) s begins memory run.0 run.0.seen run.1 in
      all-last (λ item. IfErr item (λ q. q ≡ Memory)) (map Ok ends.items) (Err error) (rw run.2.0 at errors)

-- ---- engines that fill captures

-- An engine that fills captures: its searches, and the rows that it promises.
pub record FillerOf (E C : Type 0) : Type 1 where
  pub engine : EngineOf E C Row
  pub rows : (e : E) (x : Search) → RowsOf (fills_by engine) (λ q. q.backend.captures) e x
  -- a match that a search finds is in its span
  pub lies : (e : E) (t : Search) (a : Answer Row) → engine.Tells e t a → AnswerIsInside row_span t a

module _ {E C : Type 0} (filler : FillerOf E C) where
  abbrev State : Type 0
  State = WithCache (WithCaptures E) C

  -- its searches, when they may be made, and their items
  abbrev pub filler_searches : SearchesOf E C State Row
  filler_searches = fills_by filler.engine

  abbrev May : State → Type 0
  May = MayFill filler.engine.nfa filler.engine.Fits

  abbrev pub filler_items : ItemsOf State Row Captured
  filler_items = copies_of (λ q. q.backend.captures)

  -- steps may search
  pub fills-serve : (s : Steps State) → May s.backend → can_step filler_searches.May filler_searches.asks row_span s
  fills-serve s may =
      searches-serve filler_searches (AnswerIsInside row_span) filler.lies s.backend (steps_iter_state s).at may

  -- and so may the next ones
  pub fills-go : (s : Steps State) (r : Option (Result Captured SearchError)) (t : Steps State)
      → StepsBy filler_items filler_searches.asks s r t → May s.backend → May t.backend
  fills-go s r t st may = step-may filler_searches filler_items s r t st may

  -- steps of e that begin at x, and may search
  pub record BeginsToFill (e : E) (x : Search) (s : Steps State) : Type 0 where
    pub may : May s.backend
    pub begins : Begins (SearchesAs filler_searches e) x s

  -- such are steps with captures that were made for e
  pub begins-made : (e : E) {x : Search} {captures : Captured} (cache : C) (steps : Steps (WithCaptures E))
      → filler.engine.Fits cache e
      → captures ≡ record {
        groups = (filler.engine.nfa e).groups;
        pattern = None;
        slots = replicate (slot_count (filler.engine.nfa e).groups) None;
      }
      → record {
        iter_state : steps_iter_state steps ≡ fresh x;
        backend : steps.backend ≡ record { finder = e; captures = captures };
        going : steps.done ≡ false;
      }
      → BeginsToFill e x (with_cache steps cache)
  begins-made e {captures = captures} cache steps fits made new = grind (arith, made-holds)

  -- they may search
  pub begun-serves : {e : E} {x : Search} {s : Steps State} → BeginsToFill e x s
      → can_step filler_searches.May filler_searches.asks row_span s
  begun-serves {s = s} begun = fills-serve s begun.may

  -- What the calls that made the list of the captures of x leave, and its items.
  pub all-filled : {e : E} {x : Search} {s : Steps State} → BeginsToFill e x s → {V : Type 0} (r : Result V SearchError)
      (items : V → List Captured) (left : Steps State)
      → IfOk r (λ v. DrainsAll (CapturesSteps (filler.rows e x)) s (items v) left)
      → CallsLead (CapturesSteps (filler.rows e x)) s left
      → record {
        rows : IfOk r (λ v. AreRows (filler.rows e x).nfa (filler.rows e x).kind (filler.rows e x).earliest x
            (map row_of (items v)));
        matches : IfOk r (λ v. AreMatches (filler.rows e x).nfa (filler.rows e x).kind (filler.rows e x).earliest x
            (map match_in (items v)));
        groups : IfOk r (λ v. All (HasGroups (filler.rows e x).nfa) (items v));
        inside : IfOk r (λ v. All (CapturesInside x) (items v));
        disjoint : IfOk r (λ v. AreDisjoint x None (map match_in (items v)));
        searches : LeavesBy filler_searches filler_items e x s.backend.cache left.backend.cache;
        to_end : IfOk r (λ v. LeavesAtEndBy filler_searches filler_items e x (map row_of (items v)) s.backend.cache
            left.backend.cache);
      }
  all-filled {e} {x} begun r items left all calls =
      assumption (
        all-captures (filler.rows e x) begun.begins begun.may r items left all,
        steps-leave filler_searches filler_items e begun.begins left calls,
        all-to_end filler_searches filler_items e begun.begins r items left all,
      )

-- a step of an iteration by a finder
use Rattle.nfa_paths.proofs.Common.{◌≡◌, true, false, Bool, Option, Result, Err, IsOk, refl, subst, ◌⊎◌, inl, inr, MatchBool, Captured, Search, search_of, Span, Input, arith}
use Rattle.nfa_search_base.specs.Common.{IsCallableOn, SameButStart, EndsBy, IterState, Answer, answer_span, AnswerIsInside, IsInfalliblyInside, repeats, after, shifted, Advances, ComesAfter, LeavesFewer, Finds, answer_by, AnswersAlong, GivesItem, TakesStep, takes_steps, WithCache, accepts_whole, asks_whole, CanFill, Fills, GivesCaptures, Row, WithCaptures, row_span, ServesOnAlong, ServesAdvance, StepDone, Called, Mut, Bor, MutBor, SearchError, Steps}
use Rattle.nfa_search_base.proofs.AskingLemmas.{same_start-self, Along-same, Along-now, Along-call, ServesOnAlong-by}
pub use Rattle.nfa_search_base.proofs.IterStateLemmas.{same_start-after, same_start-shifted}
use Rattle.nfa_search_base.proofs.IterStateLemmas.{IsOrdered, Moves-first, Moves-second}

-- which of the two facts a test chose
pub chosen : {A B : Type 0} (b : Bool) → MatchBool b A B → ((b ≡ true) × A) ⊎ ((b ≡ false) × B)
chosen true h = inl (refl, h)
chosen false h = inr (refl, h)

-- a call of an iterator that has not ended takes a step
pub step-taken : {S X Y : Type 0} {span : X → Span} {asks : S → Search → Answer X → S → Type 0}
    {gives : S → Answer X → Option (Result Y SearchError) → Type 0} {s t : Steps S}
    {r : Option (Result Y SearchError)} → s.done ≡ false → takes_steps span asks gives s r t
    → TakesStep span asks gives s r t
step-taken {s = s} going st = grind (arith, chosen)

-- If calls from good states are calls of another, as `shown`, and lead to good states, so do steps.
module _ {S T X : Type 0} {span : X → Span} {asks : S → Search → Answer X → S → Type 0}
    {asks' : T → Search → Answer X → T → Type 0} (shown : S → T) (Good : S → Type 0) where
  pub step-shown : {s s' : S} {w w' : IterState} {a : Answer X}
      → ((q : S) (t : Search) (b : Answer X) (q' : S) → SameButStart w.at t → Good q → asks q t b q'
      → asks' (shown q) t b (shown q') × Good q')
      → Good s → Advances span asks s w a s' w' → Advances span asks' (shown s) w a (shown s') w' × Good s'
  step-shown {s =
      s} {s' = s'} {w = w} {a = a} acts good step = grind (arith, same_start-self, chosen, same_start-shifted)

-- A step from the state f and the iteration w.
module _ {S X : Type 0} {accepts : S → Search → Type 0} {asks : S → Search → Answer X → S → Type 0} {span : X → Span}
    {f : S} where
  -- if something holds along calls, a step may be made
  pub ServesAdvance-now : {P : Search → Answer X → Type 0} (w : IterState)
      → ServesOnAlong accepts asks SameButStart P f w.at → ServesAdvance accepts asks span P f w
  ServesAdvance-now w h = record {
    first = Along-now h (same_start-self w.at);
    second = λ a f' asked again. Along-now (Along-call h (same_start-self w.at) asked) (same_start-shifted w);
  }

  module _ {P : Search → Answer X → Type 0} {w : IterState} {r : Answer X} {f' : S} {w' : IterState}
      (step : Advances span asks f w r f' w') (h : ServesOnAlong accepts asks SameButStart P f w.at) where
    once : ServesOnAlong accepts asks SameButStart P step.between w.at
    once = Along-call h (same_start-self w.at) step.first

    -- it still holds after the step
    pub Along-step : ServesOnAlong accepts asks SameButStart P f' w.at
    Along-step = elim (chosen (repeats w (answer_span span step.answer)) step.rest) [
      | inl p ↦ Along-call once (same_start-shifted w) p.1.0
      | inr p ↦ rw p.1.1 once
    ]

    -- and from the state of the iteration then
    pub Along-turn : SameButStart w.at w'.at → ServesOnAlong accepts asks SameButStart P f' w'.at
    Along-turn same = Along-same Along-step same

    -- the answer of the step is one of a call
    pub Along-answer : (s : Search) × P s r
    Along-answer = elim (chosen (repeats w (answer_span span step.answer)) step.rest) [
      | inl p ↦ ((shifted w).at, (Along-now once (same_start-shifted w)).replies r f' p.1.0)
      | inr p ↦ (w.at, rw p.1.0 ((Along-now h (same_start-self w.at)).replies step.answer step.between step.first))
    ]

  -- what holds of the answers of a step may be weakened
  pub ServesAdvance-surely : {w : IterState} → ServesAdvance accepts asks span (IsInfalliblyInside span) f w
      → ServesAdvance accepts asks span (AnswerIsInside span) f w
  ServesAdvance-surely h = grind (arith)

  -- if no call fails, a step does not fail
  pub step-surely : {w : IterState} {r : Answer X} {f' : S} {w' : IterState}
      → ServesAdvance accepts asks span (IsInfalliblyInside span) f w → Advances span asks f w r f' w' → IsOk r
  step-surely {w = w} {r = r} {f' = f'} h step = grind (arith, chosen)

  -- so its reply is no error
  pub step-no_error : {A : Type 0} (view : A → X) {w : IterState} {reply : Result (Option A) SearchError} {f' : S}
      {w' : IterState} {e : SearchError} → ServesAdvance accepts asks span (IsInfalliblyInside span) f w
      → Advances span asks f w (answer_by view reply) f' w' → reply ≡ Err e → ⊥
  step-no_error view h step is =
      let no : false ≡ true = subst (λ r. IsOk (answer_by view r)) is (step-surely h step) in cc

-- a call on this search gave this answer, whose match has this span
pub record Replies {S X : Type 0} (asks : S → Search → Answer X → S → Type 0) (span : X → Span) (s : S) (t : Search)
    (a : Answer X) (s' : S) (p : Option Span) : Type 0 where
  pub asked : asks s t a s'
  pub is : p ≡ answer_span span a
  pub ordered : IsOrdered p

-- The calls of a step of the iteration w, from the state s.
module _ {S X : Type 0} {accepts : S → Search → Type 0} {asks : S → Search → Answer X → S → Type 0} {span : X → Span}
    {s : S} {w : IterState} (serves : ServesAdvance accepts asks span (AnswerIsInside span) s w)
    (behind : EndsBy w.last w.at.start) where
  -- a first answer that does not repeat the last match is the step's
  pub step-once : {a : Answer X} {s' : S} {p : Option Span} → Replies asks span s w.at a s' p
      → repeats w p ≡ false → StepDone accepts asks span s w a s' (after w p)
  step-once {a = a} {s' = s'} reply new = grind (arith, Moves-first)

  -- after one that repeats it, the second answer is
  pub step-twice : {a b : Answer X} {between s' : S} {w1 : IterState} {p q : Option Span}
      → Replies asks span s w.at b between q → repeats w q ≡ true → w1 ≡ shifted w
      → Replies asks span between w1.at a s' p → StepDone accepts asks span s w a s' (after w1 p)
  step-twice {a = a} {b = b} {between = between} {s' = s'} once new one twice = grind (arith, Moves-second)

-- a finder's answers along its calls are its replies' values
module _ {A X F : Type 0} (view : A → X) (g : Mut F (Bor Input × Unit {0}) (Result (Option A) SearchError))
    (P : Search → Answer X → Type 0) where
  pub AnswersAlong-by : (Inv : F → Type 0) (f : F) (s : Search) → Inv f
      → ((q : F) (p : Bor Input) → SameButStart s (search_of p.now) → Inv q → g.pre q (p, tt))
      → ((q : F) (p : Bor Input) (reply : Result (Option A) SearchError) (q' : F) → SameButStart s (search_of p.now)
      → Inv q → Called g q (p, tt) reply q' → P (search_of p.now) (answer_by view reply) × Inv q')
      → AnswersAlong view g P f s
  AnswersAlong-by Inv f s now may says = ServesOnAlong-by Inv f s now
      (λ q t same inv p e. may q p (rw e same) inv)
      (λ q t a q' same inv found.
      let asked = found.asked in
      let k = says q asked.shown found.reply q' (rw asked.shows same) inv asked.called in
      (rw found.shows (rw asked.shows at k.0), k.1))

  pub AnswersAlong-always : (f : F) (s : Search)
      → ((q : F) (p : Bor Input) → SameButStart s (search_of p.now) → g.pre q (p, tt))
      → ((q : F) (p : Bor Input) (reply : Result (Option A) SearchError) (q' : F) → SameButStart s (search_of p.now)
      → Called g q (p, tt) reply q' → P (search_of p.now) (answer_by view reply))
      → AnswersAlong view g P f s
  AnswersAlong-always f s may says = AnswersAlong-by (λ (q : F). Unit {0}) f s tt (λ q p same u. may q p same)
      (λ q p reply q' same u called. (says q p reply q' same called, tt))

-- Steps of any searcher whose answers are in the span of their search.
module _ {X S : Type 0} {span : X → Span} {asks : S → Search → Answer X → S → Type 0}
    (good : (s : S) (t : Search) (a : Answer X) (s' : S) → asks s t a s' → AnswerIsInside span t a
    × IsOrdered (answer_span span a))
    {s : S} {w : IterState} (behind : EndsBy w.last w.at.start) where
  -- its match comes after the last one, and leaves fewer ends
  pub Advances-fewer : {r : Answer X} {s' : S} {w' : IterState} → Advances span asks s w r s' w'
      → ComesAfter w (answer_span span r) × LeavesFewer w (answer_span span r) w'
  Advances-fewer {r = r} {s' = s'} step = grind (arith, chosen, Moves-second, Moves-first)

-- What answers the searches of an iteration, and the items that it gives.
pub record CallsOf (S X Y : Type 0) : Type 1 where
  pub accepts : S → Search → Type 0
  pub asks : S → Search → Answer X → S → Type 0
  pub span : X → Span
  pub gives : S → Answer X → Option (Result Y SearchError) → Type 0

-- a finder
abbrev pub finder_calls : {A X F : Type 0} → (A → X) → (X → Span)
    → Mut F (Bor Input × Unit {0}) (Result (Option A) SearchError) → CallsOf F X A
finder_calls view span g =
    record { accepts = IsCallableOn g; asks = Finds view g; span = span; gives = λ _. GivesItem view }

-- a finder that fills captures
abbrev pub filler_calls : {F : Type 0} → Mut F (Bor Input × (MutBor Captured × Unit {0}))
    (Result (Unit {0}) SearchError × (MutBor Captured × Unit {0})) → CallsOf (WithCaptures F) Row Captured
filler_calls g = record { accepts = CanFill g; asks = Fills g; span = row_span; gives = GivesCaptures }

-- If a part of the state is borrowed for each call, calls are calls with the `whole` state.
module _ {S C T X Y : Type 0} (whole : WithCache S C → T) (calls : CallsOf T X Y) where
  abbrev pub accepts_in : WithCache S C → Search → Type 0
  accepts_in = accepts_whole whole calls.accepts

  abbrev pub asks_in : WithCache S C → Search → Answer X → WithCache S C → Type 0
  asks_in = asks_whole whole calls.asks

  pub serves-whole : {P : Search → Answer X → Type 0} {s : WithCache S C} {w : IterState}
      → ServesAdvance calls.accepts calls.asks calls.span P (whole s) w
      → ServesAdvance accepts_in asks_in calls.span P s w
  serves-whole h = grind (arith)

  pub Along-whole : {P : Search → Answer X → Type 0} {s : WithCache S C} {x : Search}
      → ServesOnAlong calls.accepts calls.asks SameButStart P (whole s) x
      → ServesOnAlong accepts_in asks_in SameButStart P s x
  Along-whole {P = P} {s = s} {x = x} h =
      ServesOnAlong-by (λ q. ServesOnAlong calls.accepts calls.asks SameButStart P (whole q) x) s x h
      (λ q t same on. (Along-now on same).callable)
      (λ q t a q' same on asked. ((Along-now on same).replies a (whole q') asked, Along-call on same asked))

  pub step-whole : {s t : WithCache S C} {w v : IterState} {r : Answer X}
      → Advances calls.span asks_in s w r t v
      → Advances calls.span calls.asks (whole s) w r (whole t) v
  step-whole {s = s} {t = t} {w = w} {v = v} {r = r} h = grind (arith, step-shown)

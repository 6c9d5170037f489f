-- What answers the searches of an iteration: an engine, or a caller's finder; and the skipping of answers that split a
-- codepoint.
use Rattle.std.specs.Prelude.{◌≡◌, true, List, Option, Result, ⊤, ℕ, ◌+◌, ◌-◌, ◌≤◌, nat_le, if◌then◌else◌, [], ◌∷◌, length, None, Some, IfSome, IsSomeAnd, Ok, IfOk, IsOkAnd}
use Rattle.nfa_paths.specs.Common.{Bor, Called, Mut, FoldsTo, HalfMatch, Input, Match, Search, Span, found_of, half_found_of, search_of, IsBoundary}
use Rattle.nfa_search_base.specs.Items.{answer_by}
use Rattle.nfa_search_base.specs.IterStates.{Advances, Answer, AnswerIsInside, ComesAfter, IsInfalliblyInside, IterState, LeavesFewer, LiesIn, SameButStart, SearchError, answer_span, half_span_of, repeats, shifted, span_of}

-- In the state s it `accepts` a search t. A call on t, as `asks` says, then gives a reply and leaves a state.
module _ {S R : Type 0} (accepts : S → Search → Type 0) (asks : S → Search → R → S → Type 0) where
  -- it may be called on this search, and P holds of its reply
  pub record ServesOn (P : Search → R → Type 0) (s : S) (t : Search) : Type 0 where
    pub callable : accepts s t
    pub replies : (reply : R) (s' : S) → asks s t reply s' → P t reply

  module _ (Same : Search → Search → Type 0) where
    -- calls on searches that are the same as t led from s to s'
    abbrev pub LeadsOn : Search → S → List (Search × R) → S → Type 0
    LeadsOn t s calls s' = FoldsTo (λ p x q. Same t x.0 × asks p x.0 x.1 q) s calls s'

    -- after some such calls from s, the next call, on u, may give this reply
    pub record MayReply (s : S) (t u : Search) (reply : R) : Type 0 where
      pub calls : List (Search × R)
      pub between : S
      pub left : S
      pub leads : LeadsOn t s calls between
      pub same : Same t u
      pub asked : asks between u reply left

    -- after any such calls, the next call may be made, and P holds of its reply
    pub record ServesOnAlong (P : Search → R → Type 0) (s : S) (t : Search) : Type 0 where
      pub at : (calls : List (Search × R)) (s' : S) (u : Search) → LeadsOn t s calls s' → Same t u → ServesOn P s' u

-- Its replies are answers. `span` gives the spans of their matches.
module _ {S X : Type 0} (accepts : S → Search → Type 0) (asks : S → Search → Answer X → S → Type 0)
    (span : X → Span) where
  -- P holds of its answers for a step of the iteration w. The step may call it once, and again one byte on if the first
  -- answer is an empty match at the last end.
  pub record ServesAdvance (P : Search → Answer X → Type 0) (s : S) (w : IterState) : Type 0 where
    pub first : ServesOn accepts asks P s w.at
    pub second : (a : Answer X) (s' : S) → asks s w.at a s' → repeats w (answer_span span a) ≡ true
        → ServesOn accepts asks P s' (shifted w).at

  -- The result of a step. It is one of the iteration. Its match is in the search's span, comes after the last one and
  -- leaves fewer ends. Only the search's start moved.
  pub record StepDone (s : S) (w : IterState) (a : Answer X) (s' : S) (w' : IterState) : Type 0 where
    pub step : Advances span asks s w a s' w'
    pub inside : LiesIn w.at (answer_span span a)
    pub rises : ComesAfter w (answer_span span a)
    pub fewer : LeavesFewer w (answer_span span a) w'
    pub same : SameButStart w.at w'.at

-- a search may always be made
abbrev pub may_ask : {S : Type 0} → S → Search → Type 0
may_ask s x = ⊤

-- A caller's finder.
module _ {F R : Type 0} (g : Mut F (Bor Input × Unit {0}) R) where
  -- a call of the finder f on this search gave the reply, and left the finder as f'
  pub record Asks (f : F) (s : Search) (reply : R) (f' : F) : Type 0 where
    pub shown : Bor Input
    pub shows : search_of shown.now ≡ s
    pub called : Called g f (shown, tt) reply f'

  -- the finder may be called on this search
  abbrev pub IsCallableOn : F → Search → Type 0
  IsCallableOn f s = (p : Bor Input) → search_of p.now ≡ s → g.pre f (p, tt)

-- A finder replies with an A. `view` is its value.
module _ {A X F : Type 0} (view : A → X) (g : Mut F (Bor Input × Unit {0}) (Result (Option A) SearchError)) where
  -- a call of the finder f on the search gave this answer, and left the finder as f'
  pub record Finds (f : F) (s : Search) (a : Answer X) (f' : F) : Type 0 where
    pub reply : Result (Option A) SearchError
    pub asked : Asks g f s reply f'
    pub shows : a ≡ answer_by view reply

  -- after any calls of f on searches that differ from s only in their start, the next call may be made, and P holds of
  -- its answer
  abbrev pub AnswersAlong : (Search → Answer X → Type 0) → F → Search → Type 0
  AnswersAlong P f s = ServesOnAlong (IsCallableOn g) Finds SameButStart P f s

  -- each call of f on a search like s answers as h does
  abbrev pub Computes : (Search → Answer X) → F → Search → Type 0
  Computes h f s = AnswersAlong (λ t a. a ≡ h t) f s

  module _ (span : X → Span) where
    -- the finder may be called for a step, and answers matches in the span
    abbrev pub FindsStep : F → IterState → Type 0
    FindsStep = ServesAdvance (IsCallableOn g) Finds span (AnswerIsInside span)

    -- and it never fails
    abbrev pub FindsStepInfallibly : F → IterState → Type 0
    FindsStepInfallibly = ServesAdvance (IsCallableOn g) Finds span (IsInfalliblyInside span)

    -- a step by the finder
    abbrev pub StepsBy : F → IterState → Answer A → F → IterState → Type 0
    StepsBy f w r f' w' = Advances span Finds f w (answer_by view r) f' w'

-- the span of the match in the reply
abbrev pub match_span : Answer Match → Option Span
match_span reply = answer_span span_of (answer_by found_of reply)

-- the span of the half match in the reply: its offset, without bytes
abbrev pub half_match_span : Answer HalfMatch → Option Span
half_match_span reply = answer_span half_span_of (answer_by half_found_of reply)

-- what a call left: its answer, and the finder
pub record CallLeft (T F : Type 0) : Type 0 where
  pub answer : Answer (T × ℕ)
  pub finder : F

-- the offset is in the span
abbrev pub IsInSpan : Search → ℕ → Type 0
IsInSpan s offset = (s.start ≤ offset) × (offset ≤ s.end)

-- the answer's offset, if there is one, is in the span
abbrev pub HasOffsetIn : {T : Type 0} → Search → Answer (T × ℕ) → Type 0
HasOffsetIn s a = IfOk a (λ found. IfSome found (λ x. IsInSpan s x.1))

-- the answer is a value whose offset splits a codepoint
abbrev pub IsInCharacter : {T : Type 0} → List ℕ → Answer (T × ℕ) → Type 0
IsInCharacter haystack a = IsOkAnd a (λ found. IsSomeAnd found (λ x. ¬ (IsBoundary haystack x.1)))

-- the answer is an error, is none, or has its offset on a boundary
abbrev pub IsWholeReply : {T : Type 0} → List ℕ → Answer (T × ℕ) → Type 0
IsWholeReply haystack a = IfOk a (λ found. IfSome found (λ x. IsBoundary haystack x.1))

-- the search with its start raised by n
abbrev pub start_raised : Search → ℕ → Option Search
start_raised s n = Some (record s { start = s.start + n })

-- the search with its end lowered by n, if its end is at least n
abbrev pub lowered : Search → ℕ → Option Search
lowered s n = if nat_le n s.end then Some (record s { end = s.end - n }) else None

module _ {T F : Type 0} (g : Mut F (Bor Input × Unit {0}) (Answer (T × ℕ))) where
  -- the finder's answer on this search; if there is no search, none without a call
  abbrev pub Answers : F → Option Search → Answer (T × ℕ) → F → Type 0
  Answers f (Some s) a f' = Asks g f s a f'
  Answers f None a f' = (a ≡ Ok None) × (f' ≡ f)

  module _ (haystack : List ℕ) (moved : ℕ → Option Search) where
    -- p splits a codepoint, and the next call, on the search moved by n, left q
    abbrev pub SkipsOn : CallLeft T F → ℕ → CallLeft T F → Type 0
    SkipsOn p n q = IsInCharacter haystack p.answer × Answers p.finder (moved n) q.answer q.finder

    -- From p on, which a call on the search moved by n left, these calls followed, and the last one left q.
    abbrev pub Reaches : ℕ → CallLeft T F → List (CallLeft T F) → CallLeft T F → Type 0
    Reaches n p [] q = q ≡ p
    Reaches n p (c ∷ calls) q = SkipsOn p (n + 1) c × Reaches (n + 1) c calls q

    -- The finder may be called if the last answer splits a codepoint and the search can be moved once more. It then
    -- answers an offset in the span.
    pub record ServesSkips (r : Answer (T × ℕ)) (f : F) : Type 0 where
      pub at : (calls : List (CallLeft T F)) (q : CallLeft T F) (s : Search)
          → Reaches 0 (record { answer = r; finder = f }) calls q → IsInCharacter haystack q.answer
          → moved (length calls + 1) ≡ Some s → ServesOn (IsCallableOn g) (Asks g) HasOffsetIn q.finder s

    -- from the finder f and the first answer r, the result is the first answer that splits no codepoint
    pub record SkipsTo (r : Answer (T × ℕ)) (f : F) (result : Answer T) (left : F) : Type 0 where
      pub calls : List (CallLeft T F)
      pub last : Answer (T × ℕ)
      pub reached : Reaches 0 (record { answer = r; finder = f }) calls (record { answer = last; finder = left })
      pub whole : IsWholeReply haystack last
      pub gives : result ≡ answer_by (λ x. x.0) last

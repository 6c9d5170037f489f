-- Iterators over captures that search with a choice, or with an engine that shows itself as one: when they may search,
-- and what they give and keep.
use Rattle.std.specs.Global.{Vec}
use Rattle.nfa_paths.proofs.Common.{◌≡◌, ◌⊎◌, Bool, false, None, Option, Result, Ok, Err, IsOk, IfErr, IfOk, refl, replicate, subst, map, All, IfErr-weaker, Search, Captured, slot_count}
use Rattle.nfa_search_base.specs.Common.{Answer, CapturesGiven, filled_answer, held_unless, takes_bare_steps, WithCaptures, GivesCaptures, Row, row_of, row_span, HasGroups, AnswersRow, CapturesInside, CapturesMemory, CallsLead, DrainsAll, DrainsToError, WithCache, with_cache, GivesStepsWith, StepsWith, TakesStepWith, steps_with_state, steps_iter_state, can_step, takes_steps, AnswerIsInside, fresh}
use Rattle.nfa_search_base.specs.declared.error.SearchError.{SearchError}
use Rattle.nfa_search_base.specs.declared.error.SearchError.TheVariants.{Memory}
use Rattle.nfa_search_base.specs.declared.iter.steps.Steps.{Steps}
use Rattle.nfa_search_base.proofs.CapturesLemmas.{row-lies}
use Rattle.nfa_search_base.proofs.CapturesRunLemmas.{RowsOf, captures-given, captures-memory}
use Rattle.nfa_search_base.proofs.DrainedLemmas.{all-captures, calls-cache, error-captures, made-holds}
use Rattle.nfa_search_base.proofs.EngineLemmas.{KeptBy, SearchesAs, SearchesOf, calls-kept, searches-serve, step-may}
use Rattle.nfa_search_base.proofs.ItemLemmas.{ItemsOf, copies_of, ShellOf, plain_shell, steps_in}
use Rattle.nfa_search_base.proofs.LentLemmas.{lent-step}
use Rattle.nfa_search_base.proofs.LeavingLemmas.{all-to_end, shell-leaves, steps-leave}
use Rattle.nfa_search_base.proofs.RunLemmas.{Begins}
use Rattle.nfa_pikevm.specs.Engines.{Pike, kind_of}
use Rattle.nfa_pikevm.specs.Finding.{PikeAnswersRow}
use Rattle.nfa_choice.specs.Answered.{ListsCaptures}
use Rattle.nfa_choice.specs.ChoiceState.{ChoiceState, kind_in, pike_of}
use Rattle.nfa_choice.specs.Iterations.{AsksRowBy, CapturesLead, CapturesNextBy, CapturesOn, CapturesToEnd, ChoiceEngine, MayFillCaptures, SearchesBy}
use Rattle.nfa_choice.proofs.FindLemmas.{KeepsChoice, pike-kept}

-- By the engine e.
module _ {C : Type 0} {e : ChoiceEngine C} (keeps : KeepsChoice e) where
  -- the state of an iteration over captures
  abbrev Capturing : Type 0
  Capturing = WithCache (WithCaptures (Unit {0})) C

  -- the searches, whose answers are those of the PikeVM
  abbrev fills : SearchesOf Pike C Capturing Row
  fills = record {
    engine = λ s. pike_of (e.choice s.cache);
    cache = λ s. s.cache;
    asks = AsksRowBy e;
    May = λ s x. MayFillCaptures e s;
    Tells = PikeAnswersRow;
    Work = λ vm x a. SearchesBy e x;
    tells = λ s t a s' asked. asked.tells;
    works = λ s t a s' asked. asked.work;
    stays = λ s t a s' asked. pike-kept (e.choice s.cache) (e.choice s'.cache)
        (keeps.engines s.cache s'.cache asked.work.keeps);
    like = λ s x t same may. may;
    goes = λ s t a s' may asked. rw (keeps.engines s.cache s'.cache asked.work.keeps).nfa asked.holds;
  }

  -- its items
  abbrev copies : ItemsOf Capturing Row Captured
  copies = copies_of (λ q. q.backend.captures)

  -- what it answers to searches like x: the rows of the NFA, with the same `earliest`
  abbrev rows_of : (c : ChoiceState) (x : Search) → RowsOf fills (λ q. q.backend.captures) (pike_of c) x
  rows_of c x = record {
    nfa = c.nfa;
    kind = kind_in c;
    earliest = x.earliest;
    tells = AnswersRow c.nfa (kind_in c) x.earliest;
    given = λ t a same h. subst (λ (b : Bool). AnswersRow c.nfa (kind_in c) b t a) same.earliest h;
    row = λ t o h. h;
    groups = λ s t is may. subst (λ (vm : Pike). HasGroups vm.nfa s.backend.captures) is may;
  }

  -- each search keeps the engines
  abbrev captures_kept : KeptBy (AsksRowBy e)
  captures_kept = record {
    Keeps = e.Keeps;
    self = keeps.self;
    then = keeps.then;
    asked = λ s x a t asked. asked.work.keeps;
  }

  -- steps may search in every state
  pub steps-serve : (s : Steps Capturing) → MayFillCaptures e s.backend
      → can_step (λ q x. MayFillCaptures e q) (AsksRowBy e) row_span s
  steps-serve s may = searches-serve fills (AnswerIsInside row_span)
      (λ vm t a h. (row-lies vm.nfa (kind_of vm) t.earliest t a h).0) s.backend (steps_iter_state s).at may

  -- and after a step
  pub step-goes : (s : Steps Capturing) (r : Option (Result Captured SearchError)) (t : Steps Capturing)
      → takes_steps row_span (AsksRowBy e) (λ q. GivesCaptures q.backend) s r t → MayFillCaptures e s.backend
      → MayFillCaptures e t.backend
  step-goes s r t st may = step-may fills copies s r t st may

  -- a step that makes no item is a call that gives the captures which it holds
  pub captures-lent : (s t : Steps Capturing) (reply : Option (Result (Unit {0}) SearchError))
      → takes_bare_steps row_span (AsksRowBy e) (λ q. filled_answer q.backend.captures) s reply t
      → takes_steps row_span (AsksRowBy e) (λ q. GivesCaptures q.backend) s
      (held_unless t.done t.backend.backend.captures) t
  captures-lent s t reply st = lent-step (λ q. q.backend.captures) never-fails s t reply st
    where
      never-fails : (q : Capturing) (x : Search) (a : Answer Row) (q' : Capturing) → AsksRowBy e q x a q' → IsOk a
      never-fails q x (Ok o) q' asked = refl
      never-fails q x (Err e) q' asked = absurd asked.tells

  -- An iterator T.
  module _ {T : Type 0} (steps : T → StepsWith (WithCaptures (Unit {0})) C) where
    abbrev shell
        : ShellOf (TakesStepWith row_span (AsksRowBy e) GivesCaptures) (λ (i : Result Captured SearchError). i) T
    shell = plain_shell (CapturesNextBy e steps) steps (λ s r t st. st.takes)

    -- its calls keep the engine, and what its answers depend on
    pub captures-stay-kept : (s : T) → GivesStepsWith (CapturesNextBy e steps) steps e.Keeps s
    captures-stay-kept = calls-kept captures_kept shell

    -- It begins at x.
    module _ (x : Search) (s : T) (iter_state : steps_iter_state (steps s).steps ≡ fresh x)
        (going : (steps s).steps.done ≡ false) where
      -- its choice
      abbrev shows : ChoiceState
      shows = e.choice (steps s).cache.now

      begins : Begins (SearchesAs fills (pike_of shows)) x (steps_with_state (steps s))
      begins = record { iter_state = iter_state; going = going; good = refl }

      -- its calls give the captures of the NFA
      pub captures-are-given : MayFillCaptures e (steps_with_state (steps s)).backend
          → CapturesGiven (CapturesNextBy e steps) shows.nfa (kind_in shows) x.earliest
          (AnswersRow shows.nfa (kind_in shows) x.earliest) x s
      captures-are-given may = captures-given (rows_of shows x) (steps_in shell) s begins may

      -- and no error but `Memory`
      pub captures-take-memory : CapturesMemory (CapturesNextBy e steps) s
      captures-take-memory = captures-memory (rows_of shows x) (steps_in shell) s begins
          (λ t f from to never. absurd never)

      -- they change the engine only by their searches
      pub captures-by-searches : CapturesLead e steps x s
      captures-by-searches = record {
        on = shell-leaves fills copies (steps_in shell) (pike_of shows) s begins;
      }

  -- The list of the captures of x: its steps begin with captures that were made for the engine c.
  module _ (c : C) {x : Search} {captures : Captured}
      (made : captures ≡ record {
        groups = (e.choice c).nfa.groups;
        pattern = None;
        slots = replicate (slot_count (e.choice c).nfa.groups) None;
      })
      (steps : Steps (WithCaptures (Unit {0})))
      (begins : record {
        iter_state : steps_iter_state steps ≡ fresh x;
        backend : steps.backend ≡ record { finder = tt; captures = captures };
        going : steps.done ≡ false;
      }) where
    made-may : MayFillCaptures e (with_cache steps c).backend
    made-may = rw begins.backend (made-holds (e.choice c).nfa captures made)

    -- they may search
    pub made-serves : can_step (λ q x. MayFillCaptures e q) (AsksRowBy e) row_span (with_cache steps c)
    made-serves = steps-serve (with_cache steps c) made-may

    begun : Begins (SearchesAs fills (pike_of (e.choice c))) x (with_cache steps c)
    begun = record { iter_state = begins.iter_state; going = begins.going; good = refl }

    abbrev Calls : Steps Capturing → Option (Result Captured SearchError) → Steps Capturing → Type 0
    Calls = takes_steps row_span (AsksRowBy e) (λ q. GivesCaptures q.backend)

    -- What the calls that made the list leave, and its items.
    pub all-caught : (r : Result (Vec Captured) SearchError) {left : Steps Capturing}
        → record {
          all : IfOk r (λ v. DrainsAll Calls (with_cache steps c) v.items left);
          errors : IfErr r (λ error. (error ≡ Memory) ⊎ DrainsToError Calls (with_cache steps c) error left);
          calls : CallsLead Calls (with_cache steps c) left;
        } → record {
          memory : IfErr r (λ error. error ≡ Memory);
          lists : ListsCaptures (e.choice c) x r;
          inside : IfOk r (λ v. All (CapturesInside x) v.items);
          keeps : e.Keeps c left.backend.cache;
          searches : CapturesOn e x c left.backend.cache;
          to_end : IfOk r (λ v. CapturesToEnd e x (map row_of v.items) c left.backend.cache);
        }
    all-caught r {left} given =
        let rows = all-captures (rows_of (e.choice c) x) begun made-may r (λ v. v.items) left given.all in
        record {
          memory = IfErr-weaker r _ _
              (λ error h. error-captures (rows_of (e.choice c) x) begun (λ t f from to never. absurd never) error left
              h)
              given.errors;
          lists = record { rows = rows.0; matches = rows.1; groups = rows.2; disjoint = rows.4 };
          inside = rows.3;
          keeps = calls-cache captures_kept copies (with_cache steps c) left given.calls;
          searches = steps-leave fills copies (pike_of (e.choice c)) begun left given.calls;
          to_end = all-to_end fills copies (pike_of (e.choice c)) begun r (λ v. v.items) left given.all;
        }

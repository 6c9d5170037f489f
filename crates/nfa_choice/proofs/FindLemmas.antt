-- Iterators over matches that search with a choice, or with an engine that shows itself as one: when they may search,
-- and what they give and keep.
use Rattle.std.specs.Iterator.{Yields}
use Rattle.nfa_paths.proofs.Common.{◌≡◌, Bool, false, List, None, Ok, Option, Result, map, refl, rules, subst, Found, found_of, Search, Match}
use Rattle.nfa_search_base.specs.Common.{SameButStart, WithCache, GivesStepsWith, StepsWith, TakesStepWith, steps_with_state, steps_iter_state, AnswersMatch, GivesKept, MatchesGiven, may_ask, GivesItem, can_step_infallibly, takes_steps, Answer, fresh, span_of, IsInfalliblyInside}
use Rattle.nfa_search_base.specs.declared.error.SearchError.{SearchError}
use Rattle.nfa_search_base.specs.declared.iter.steps.Steps.{Steps}
use Rattle.nfa_search_base.proofs.EngineLemmas.{KeptBy, SearchesAs, SearchesOf, answers_as, calls-kept, find-lies, searches-serve, step-may}
use Rattle.nfa_search_base.proofs.ItemLemmas.{ItemsOf, items_as, ShellOf, steps_in}
use Rattle.nfa_search_base.proofs.LeavingLemmas.{shell-leaves, shell-to_end}
use Rattle.nfa_search_base.proofs.CapturesRunLemmas.{matches-given}
use Rattle.nfa_search_base.proofs.RunLemmas.{AnswersOf, Begins}
use Rattle.nfa_pikevm.specs.Engines.{Pike, kind_of}
use Rattle.nfa_pikevm.specs.Finding.{PikeAnswersMatch}
use Rattle.nfa_choice.specs.ChoiceState.{ChoiceState, KeepsEngines, kind_in, pike_of}
use Rattle.nfa_choice.specs.Iterations.{AsksByRule, ChoiceEngine, FindsBy, FindsNextBy, FindsOn, FindsToEnd, TellsMatch, by_rule}
use Rattle.nfa_choice.specs.declared.choose.find_iter.ByRule.{ByRule}

-- ---- what stays

-- the PikeVM that defines the answers of a choice stays the same
pub pike-kept : (c d : ChoiceState) → KeepsEngines c d → pike_of d ≡ pike_of c
pike-kept c d keeps = rw (keeps.nfa, keeps.match_kind) refl

pub keeps-self : (c : ChoiceState) → KeepsEngines c c
keeps-self c = search rules

pub keeps-then : (a b c : ChoiceState) → KeepsEngines a b → KeepsEngines b c → KeepsEngines a c
keeps-then a b c f g = search rules

-- What the searches of an engine keep: at least the engines of its choice. None keeps it, and so do two.
pub record KeepsChoice {C : Type 0} (e : ChoiceEngine C) : Type 0 where
  pub engines : (a b : C) → e.Keeps a b → KeepsEngines (e.choice a) (e.choice b)
  pub self : (c : C) → e.Keeps c c
  pub then : (a b c : C) → e.Keeps a b → e.Keeps b c → e.Keeps a c

-- so it is for a choice
abbrev pub rule_keeps : KeepsChoice by_rule
rule_keeps = record { engines = λ a b keeps. keeps; self = keeps-self; then = keeps-then }

-- ---- the engine

-- The searches for matches of an iterator with an A, by the engine e.
pub record FinderBy {C : Type 0} (e : ChoiceEngine C) (A : Type 0) : Type 1 where
  pub keeps : KeepsChoice e
  -- a search, and when it may be made
  pub asks : WithCache A C → Search → Answer Found → WithCache A C → Type 0
  pub May : WithCache A C → Search → Type 0
  -- the answer that a search gives, and what it does
  pub tells : (s : WithCache A C) (t : Search) (a : Answer Found) (s' : WithCache A C) → asks s t a s'
      → TellsMatch (e.choice s.cache) t a
  pub works : (s : WithCache A C) (t : Search) (a : Answer Found) (s' : WithCache A C) → asks s t a s'
      → FindsBy e t s.cache s'.cache
  -- a search like it may be made too, and another one after it
  pub like : (s : WithCache A C) (x t : Search) → SameButStart x t → May s x → May s t
  pub goes : (s : WithCache A C) (t : Search) (a : Answer Found) (s' : WithCache A C) → May s t → asks s t a s'
      → May s' t

module _ {C : Type 0} {e : ChoiceEngine C} {A : Type 0} (finder : FinderBy e A) where
  -- the answers are those of the PikeVM
  abbrev finds : SearchesOf Pike C (WithCache A C) Found
  finds = record {
    engine = λ s. pike_of (e.choice s.cache);
    cache = λ s. s.cache;
    asks = finder.asks;
    May = finder.May;
    Tells = PikeAnswersMatch;
    Work = λ vm x a. FindsBy e x;
    tells = finder.tells;
    works = finder.works;
    stays = λ s t a s' asked. pike-kept (e.choice s.cache) (e.choice s'.cache)
        (finder.keeps.engines s.cache s'.cache (finder.works s t a s' asked).keeps);
    like = finder.like;
    goes = finder.goes;
  }

  abbrev items : ItemsOf (WithCache A C) Found Match
  items = items_as span_of found_of

  -- what it answers on searches like x
  abbrev answers : (c : ChoiceState) (x : Search)
      → AnswersOf (WithCache A C) x (AnswersMatch c.nfa (kind_in c) x.earliest)
  answers c x = answers_as finds (pike_of c) x (AnswersMatch c.nfa (kind_in c) x.earliest)
      (λ t a same h. subst (λ (b : Bool). AnswersMatch c.nfa (kind_in c) b t a) same.earliest h)

  -- a step may search, and never errs
  pub finder-serves : (s : Steps (WithCache A C)) → finder.May s.backend (steps_iter_state s).at
      → can_step_infallibly finder.May finder.asks span_of s
  finder-serves s may = searches-serve finds (IsInfalliblyInside span_of)
      (λ vm t a h. find-lies vm.nfa (kind_of vm) t.earliest t a h) s.backend (steps_iter_state s).at may

  -- and so may the next one
  pub finder-goes : (s : Steps (WithCache A C)) (r : Option (Result Match SearchError))
      (t : Steps (WithCache A C)) → takes_steps span_of finder.asks (λ q. GivesItem found_of) s r t
      → finder.May s.backend (steps_iter_state s).at → finder.May t.backend (steps_iter_state t).at
  finder-goes s r t st may = step-may finds items s r t st may

  abbrev kept : KeptBy finder.asks
  kept = record {
    Keeps = e.Keeps;
    self = finder.keeps.self;
    then = finder.keeps.then;
    asked = λ s x a t asked. (finder.works s x a t asked).keeps;
  }

  -- An iterator T.
  module _ {T : Type 0} (steps : T → StepsWith A C) where
    abbrev shell : ShellOf (TakesStepWith span_of finder.asks (λ _. GivesItem found_of)) (λ (m : Match). Ok m) T
    shell = record { calls = FindsNextBy finder.asks steps; inner = steps; is = λ s r t st. st.takes }

    -- its calls keep the engine
    pub finds-kept : (s : T) → GivesStepsWith (FindsNextBy finder.asks steps) steps e.Keeps s
    finds-kept = calls-kept kept shell

    -- It begins at x.
    module _ (x : Search) (s : T) (iter_state : steps_iter_state (steps s).steps ≡ fresh x)
        (going : (steps s).steps.done ≡ false) where
      -- its choice
      abbrev shows : ChoiceState
      shows = e.choice (steps s).cache.now

      begins : Begins (SearchesAs finds (pike_of shows)) x (steps_with_state (steps s))
      begins = record { iter_state = iter_state; going = going; good = refl }

      -- its calls give the matches of the NFA
      pub finds-given : MatchesGiven shows.nfa (kind_in shows) x (FindsNextBy finder.asks steps) s
      finds-given = matches-given shows.nfa (kind_in shows) (answers shows x) (steps_in shell) s begins

      -- they change the engine only by their searches
      pub finds-on : GivesKept (FindsNextBy finder.asks steps)
          (λ p q. FindsOn e x (steps p).cache.now (steps q).cache.now) s
      finds-on = shell-leaves finds items (steps_in shell) (pike_of shows) s begins

      -- and past all matches if they go on to none
      pub finds-to_end : (xs : List Match) (t u : T) → Yields (FindsNextBy finder.asks steps) s xs t
          → FindsNextBy finder.asks steps t None u
          → FindsToEnd e x (map found_of xs) (steps s).cache.now (steps u).cache.now
      finds-to_end xs t u ran st =
          let to_end = shell-to_end finds items (steps_in shell) (pike_of shows) s begins in
          to_end xs xs t u refl ran st

-- the searches of a choice by its rule
abbrev pub rule_finder : FinderBy by_rule ByRule
rule_finder = record {
  keeps = rule_keeps;
  asks = AsksByRule;
  May = may_ask;
  tells = λ s t a s' asked. asked.tells;
  works = λ s t a s' asked. asked.work;
  like = λ s x t same may. tt;
  goes = λ s t a s' may asked. tt;
}

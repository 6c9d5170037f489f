-- Iterators over half matches that search with an engine: when they may search, and what they give and keep.
use Rattle.nfa_paths.proofs.Common.{◌≡◌, ◌∙◌, Bool, false, Ok, Option, refl, subst, HalfFound, half_found_of, Search, HalfMatch}
use Rattle.nfa_search_base.specs.Common.{WithCache, GivesStepsWith, StepsWith, TakesStepWith, steps_with_state, steps_iter_state, may_ask, GivesItem, can_step_infallibly, Answer, fresh, half_span_of, IsInfalliblyInside}
use Rattle.nfa_search_base.specs.declared.iter.steps.Steps.{Steps}
use Rattle.nfa_search_base.proofs.EngineLemmas.{KeptBy, SearchesAs, SearchesOf, answers_as, calls-kept, searches-serve}
use Rattle.nfa_search_base.proofs.ItemLemmas.{ItemsOf, items_as, ShellOf, steps_in}
use Rattle.nfa_search_base.proofs.LeavingLemmas.{shell-leaves, shell-to_end}
use Rattle.nfa_search_base.proofs.RunLemmas.{AnswersOf, Begins}
use Rattle.nfa_pikevm.specs.Engines.{Pike, kind_of}
use Rattle.nfa_engines.proofs.IterationLemmas.{sizes-none, sizes-two}
use Rattle.nfa_choice.specs.HalfIterations.{AsksHalf, HalvesLead, HalvesNextBy, TellsHalf}
use Rattle.nfa_choice.specs.HalfLists.{AnswersHalf}
use Rattle.nfa_choice.specs.HalfRuns.{HalvesGiven}
use Rattle.nfa_choice.specs.HybridState.{HybridState, KeepsHybrid, pike_of}
use Rattle.nfa_choice.specs.Halves.{FindsHalfInTurn}
use Rattle.nfa_choice.proofs.HalfListLemmas.{half-lies_infallibly, halves-given}

-- An engine for half matches, whose value is a C.
pub record HalfEngine (C : Type 0) : Type 1 where
  -- the PikeVM that answers as it does, and what a search does
  pub engine : C → Pike
  pub Work : Search → C → C → Type 0
  -- what a search keeps, and so any searches
  pub Keeps : C → C → Type 0
  pub keeps : (x : Search) (a b : C) → Work x a b → Keeps a b
  pub self : (c : C) → Keeps c c
  pub then : (a b c : C) → Keeps a b → Keeps b c → Keeps a c
  pub stays : (a b : C) → Keeps a b → engine b ≡ engine a

module _ {C : Type 0} (e : HalfEngine C) {A : Type 0} where
  abbrev Asks : WithCache A C → Search → Answer HalfFound → WithCache A C → Type 0
  Asks = AsksHalf e.engine e.Work

  -- its searches, by an iterator with an A
  abbrev halves : SearchesOf Pike C (WithCache A C) HalfFound
  halves = record {
    engine = λ s. e.engine s.cache;
    cache = λ s. s.cache;
    asks = Asks;
    May = may_ask;
    Tells = TellsHalf;
    Work = λ vm x a. e.Work x;
    tells = λ s t a s' asked. asked.tells;
    works = λ s t a s' asked. asked.work;
    stays = λ s t a s' asked. e.stays s.cache s'.cache (e.keeps t s.cache s'.cache asked.work);
    like = λ s x t same may. tt;
    goes = λ s t a s' may asked. tt;
  }

  abbrev items : ItemsOf (WithCache A C) HalfFound HalfMatch
  items = items_as half_span_of half_found_of

  -- what it answers on searches like x
  abbrev answers : (vm : Pike) (x : Search) → AnswersOf (WithCache A C) x (AnswersHalf vm.nfa (kind_of vm) x.earliest)
  answers vm x = answers_as halves vm x (AnswersHalf vm.nfa (kind_of vm) x.earliest)
      (λ t a same found. subst (λ (b : Bool). AnswersHalf vm.nfa (kind_of vm) b t a) same.earliest found)

  -- a step may always search, and never errs
  pub halves-serve : (s : Steps (WithCache A C)) → can_step_infallibly may_ask Asks half_span_of s
  halves-serve s = searches-serve halves (IsInfalliblyInside half_span_of)
      (λ vm t a h. half-lies_infallibly vm.nfa (kind_of vm) t.earliest t a h) s.backend (steps_iter_state s).at tt

  abbrev kept : KeptBy Asks
  kept = record {
    Keeps = e.Keeps;
    self = e.self;
    then = e.then;
    asked = λ s x a t asked. e.keeps x s.cache t.cache asked.work;
  }

  -- An iterator T.
  module _ {T : Type 0} (steps : T → StepsWith A C) where
    abbrev Next : T → Option HalfMatch → T → Type 0
    Next = HalvesNextBy e.engine e.Work steps

    abbrev shell : ShellOf (TakesStepWith half_span_of Asks (λ _. GivesItem half_found_of)) (λ (m : HalfMatch). Ok m) T
    shell = record { calls = Next; inner = steps; is = λ s r t st. st.takes }

    -- its calls keep the engine
    pub halves-kept : (s : T) → GivesStepsWith Next steps e.Keeps s
    halves-kept = calls-kept kept shell

    -- It begins at x.
    module _ (x : Search) (s : T) (iter_state : steps_iter_state (steps s).steps ≡ fresh x)
        (going : (steps s).steps.done ≡ false) where
      abbrev vm : Pike
      vm = e.engine (steps s).cache.now

      begins : Begins (SearchesAs halves vm) x (steps_with_state (steps s))
      begins = record { iter_state = iter_state; going = going; good = refl }

      -- its calls give the half matches of the NFA
      pub halves-of : HalvesGiven vm.nfa (kind_of vm) x Next s
      halves-of = halves-given vm.nfa (kind_of vm) (answers vm x) (steps_in shell) s begins

      -- they change the engine only by their searches
      pub halves-searches : HalvesLead e.engine e.Work steps x s
      halves-searches = record {
        on = shell-leaves halves items (steps_in shell) vm s begins;
        to_end = λ xs t u ran st.
            let to_end = shell-to_end halves items (steps_in shell) vm s begins in to_end xs xs t u refl ran st;
      }

-- ---- a hybrid

pub keeps-self : (c : HybridState) → KeepsHybrid c c
keeps-self c = record { nfa = refl; config = refl; capacities = sizes-none c.pike }

pub keeps-then : (a b c : HybridState) → KeepsHybrid a b → KeepsHybrid b c → KeepsHybrid a c
keeps-then a b c f g = record {
  nfa = g.nfa ∙ f.nfa;
  config = g.config ∙ f.config;
  capacities = sizes-two a.pike b.pike c.pike f.capacities g.capacities;
}

-- whose engines search in turn
abbrev pub hybrid_engine : HalfEngine HybridState
hybrid_engine = record {
  engine = pike_of;
  Work = FindsHalfInTurn;
  Keeps = KeepsHybrid;
  keeps = λ x a b work. work.keeps;
  self = keeps-self;
  then = keeps-then;
  stays = λ a b keeps. rw (keeps.nfa, keeps.config) refl;
}

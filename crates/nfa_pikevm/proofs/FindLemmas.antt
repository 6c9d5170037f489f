-- A PikeVM as the engine of an iteration over matches: when its iterator may search, and what it gives and keeps.
use Rattle.nfa_paths.proofs.Common.{arith, ◌≡◌, Bool, false, Option, None, Some, Result, Ok, refl, sym, subst, inl, inr, Found, found_of, Search, Match, Automaton}
use Rattle.nfa_paths.proofs.EarliestLemmas.{match-sure, sure-match}
use Rattle.nfa_search_base.specs.Common.{Keeping, WithCache, TakesStepWith, steps_with_state, steps_iter_state, AnswersMatch, GivesItem, can_step_infallibly, takes_steps, Answer, IsInfalliblyInside, MatchesGiven, fresh, span_of, GivesStepsWith}
use Rattle.nfa_search_base.specs.declared.error.SearchError.{SearchError}
use Rattle.nfa_search_base.specs.declared.iter.steps.Steps.{Steps}
use Rattle.nfa_search_base.proofs.EngineLemmas.{EngineOf, FinderOf, KeptBy, SearchesAs, SearchesOf, answers_as, calls-kept, find-lies, finds_by, same-or-made, searches-serve, step-may}
use Rattle.nfa_search_base.proofs.ItemLemmas.{items_as, ShellOf, steps_in}
use Rattle.nfa_search_base.proofs.LeavingLemmas.{finds-leave, finds-to_end}
use Rattle.nfa_search_base.proofs.CapturesRunLemmas.{matches-given}
use Rattle.nfa_search_base.proofs.RunLemmas.{AnswersOf, Begins}
use Rattle.nfa_pikevm.specs.Engines.{Fits, Pike, PikeCache, SameCapacities, kind_of}
use Rattle.nfa_pikevm.specs.Iterators.{AsksPike, FindsBySearches, MayFindByPike, fits_pike, pike_matches, pike_matches_next, pike_knowing}
use Rattle.nfa_pikevm.specs.Finding.{IsSureOf, PikeSearches, PikeAnswersMatch, pike_scans}
use Rattle.nfa_pikevm.specs.declared.find_iter.FindMatches.{FindMatches}
use Rattle.nfa_pikevm.specs.declared.find_iter.Finder.{Finder}

-- a match that is sure to be found is the answer, and the other way round
pub sure-finds : (vm : Pike) (t : Search) (m : Found) → IsSureOf vm t m → PikeAnswersMatch vm t (Ok (Some m))
sure-finds vm t m sure = sure-match vm.nfa (kind_of vm) t.earliest t m sure

pub finds-sure : (vm : Pike) (t : Search) (m : Found) → PikeAnswersMatch vm t (Ok (Some m)) → IsSureOf vm t m
finds-sure vm t m finds = match-sure vm.nfa (kind_of vm) t.earliest t m finds

-- a cache that has the same numbers fits what it fitted
still-fits : (old new : PikeCache) (nfa : Automaton) → SameCapacities old new → Fits old nfa → Fits new nfa
still-fits old new nfa k fits = grind arith

-- so it fits after a search
pub searched-fits : (vm : Pike) (x : Search) (old new : PikeCache) → PikeSearches vm x old new → fits_pike old vm
    → fits_pike new vm
searched-fits vm x old new work fits = still-fits old new vm.nfa work.capacities fits

-- ---- the engine

-- the PikeVM with its answers
abbrev pub pike_engine : {X : Type 0} → (Pike → Search → Answer X → Type 0) → EngineOf Pike PikeCache X
pike_engine tells = record {
  nfa = λ vm. vm.nfa;
  Fits = fits_pike;
  Tells = tells;
  Work = λ vm x a. PikeSearches vm x;
  scans = pike_scans;
  stays = λ vm x a. searched-fits vm x;
}

abbrev pub pike_finder : FinderOf Pike Finder PikeCache
pike_finder = record { engine = pike_engine PikeAnswersMatch; shown = pike_knowing; Sure = IsSureOf; sure = sure-finds }

abbrev pub pike_finds : SearchesOf Pike (Keeping PikeCache) (WithCache Finder PikeCache) Found
pike_finds = finds_by pike_finder

-- what it answers on searches like x
abbrev pub pike_answers : (vm : Pike) (x : Search)
    → AnswersOf (WithCache Finder PikeCache) x (AnswersMatch vm.nfa (kind_of vm) x.earliest)
pike_answers vm x = answers_as pike_finds vm x (AnswersMatch vm.nfa (kind_of vm) x.earliest)
    (λ t a same h. subst (λ (b : Bool). AnswersMatch vm.nfa (kind_of vm) b t a) same.earliest h)

-- its iterator
abbrev pub find_shell : ShellOf (TakesStepWith span_of AsksPike (λ _. GivesItem found_of)) (λ (m : Match). Ok m)
    FindMatches
find_shell = record { calls = pike_matches_next; inner = pike_matches; is = λ s r t st. st.takes }

may-now : (s : FindMatches) → MayFindByPike (steps_with_state (pike_matches s)).backend
    (steps_iter_state (pike_matches s).steps).at
may-now s = record { fits = s.fits; knows = s.knows }

-- it may search in every state, and never errs
pub find-serves : (s : FindMatches) → can_step_infallibly MayFindByPike AsksPike span_of
    (steps_with_state (pike_matches s))
find-serves s = searches-serve pike_finds (IsInfalliblyInside span_of)
    (λ vm t a h. find-lies vm.nfa (kind_of vm) t.earliest t a h)
    (steps_with_state (pike_matches s)).backend (steps_iter_state (pike_matches s).steps).at (may-now s)

-- and goes on after a step
pub step-goes : (s : FindMatches) (r : Option (Result Match SearchError)) (t : Steps (WithCache Finder PikeCache))
    → takes_steps span_of AsksPike (λ q. GivesItem found_of) (steps_with_state (pike_matches s)) r t
    → MayFindByPike t.backend (steps_iter_state t).at
step-goes s r t st =
    step-may pike_finds (items_as span_of found_of) (steps_with_state (pike_matches s)) r t st (may-now s)

-- ---- the cache

pub same_capacities : (a : PikeCache) → SameCapacities a a
same_capacities a = record { states = refl; slots = refl; patterns = refl; frames = refl }

pub same_capacities-then : (a b c : PikeCache) → SameCapacities a b → SameCapacities b c → SameCapacities a c
same_capacities-then a b c f g = grind arith

abbrev find_kept : KeptBy AsksPike
find_kept = record {
  Keeps = SameCapacities;
  self = same_capacities;
  then = same_capacities-then;
  asked = λ s x a t asked. elim (same-or-made asked.work) [
    | inl same ↦ subst (λ (c : PikeCache). SameCapacities s.cache c) (sym same) (same_capacities s.cache)
    | inr work ↦ work.capacities
  ];
}

-- the calls keep the cache, and its numbers
pub gives-cache : (s : FindMatches) → GivesStepsWith pike_matches_next pike_matches SameCapacities s
gives-cache = calls-kept find_kept find_shell

-- ---- an iterator of vm that begins at x

module _ (vm : Pike) (x : Search) (s : FindMatches) (engine : s.steps.backend.engine.now ≡ vm)
    (iter_state : steps_iter_state (pike_matches s).steps ≡ fresh x) (going : s.steps.done ≡ false) where
  begins : Begins (SearchesAs pike_finds vm) x (steps_with_state (pike_matches s))
  begins = record { iter_state = iter_state; going = going; good = engine }

  -- the calls give the matches of the NFA
  pub finds-given : MatchesGiven vm.nfa (kind_of vm) x pike_matches_next s
  finds-given = matches-given vm.nfa (kind_of vm) (pike_answers vm x) (steps_in find_shell) s begins

  -- they change the cache only by their searches
  pub finds-searches : s.steps.backend.known ≡ None → FindsBySearches vm x s
  finds-searches known = record {
    on = finds-leave pike_finder (steps_in find_shell) vm s begins known;
    to_end = λ xs t u ran st.
        let to_end = finds-to_end pike_finder (steps_in find_shell) vm s begins known in
        to_end xs xs t u refl ran st;
  }

-- A PikeVM as the engine of an iteration over captures: when its iterator may search, and what it gives and keeps.
use Rattle.nfa_paths.proofs.Common.{◌≡◌, Bool, Err, IsOk, Ok, Option, false, refl, Result, subst, Search, Captured}
use Rattle.nfa_search_base.specs.Common.{Answer, Row, WithCache, WithCaptures, filled_answer, held_unless, takes_bare_steps, takes_steps, CapturesGiven, GivesCaptures, row_span, AnswersRow, CapturesMemory, TakesStepWith, steps_with_state, steps_iter_state, fresh, GivesStepsWith}
use Rattle.nfa_search_base.specs.declared.error.SearchError.{SearchError}
use Rattle.nfa_search_base.specs.declared.iter.steps.Steps.{Steps}
use Rattle.nfa_search_base.proofs.CapturesLemmas.{row-lies}
use Rattle.nfa_search_base.proofs.CapturesRunLemmas.{captures-given, captures-memory}
use Rattle.nfa_search_base.proofs.DrainedLemmas.{FillerOf, filler_items, filler_searches}
use Rattle.nfa_search_base.proofs.EngineLemmas.{KeptBy, SearchesAs, calls-kept}
use Rattle.nfa_search_base.proofs.LeavingLemmas.{shell-leaves}
use Rattle.nfa_search_base.proofs.LentLemmas.{lent-step}
use Rattle.nfa_search_base.proofs.RunLemmas.{Begins}
use Rattle.nfa_search_base.proofs.ItemLemmas.{ShellOf, plain_shell, steps_in}
use Rattle.nfa_pikevm.specs.Iterators.{AsksPikeRow, CapturesBySearches, pike_captures, pike_captures_next}
use Rattle.nfa_pikevm.specs.Engines.{Pike, PikeCache, SameCapacities, kind_of}
use Rattle.nfa_pikevm.specs.Finding.{PikeAnswersRow}
use Rattle.nfa_pikevm.specs.declared.captures_iter.CapturesMatches.{CapturesMatches}
use Rattle.nfa_pikevm.proofs.FindLemmas.{pike_engine, same_capacities, same_capacities-then}

-- the rows of the NFA; on searches like x, with the same `earliest`
abbrev pub pike_filler : FillerOf Pike PikeCache
pike_filler = record {
  engine = pike_engine PikeAnswersRow;
  rows = λ vm x. record {
    nfa = vm.nfa;
    kind = kind_of vm;
    earliest = x.earliest;
    tells = AnswersRow vm.nfa (kind_of vm) x.earliest;
    given = λ t a same h. subst (λ (b : Bool). AnswersRow vm.nfa (kind_of vm) b t a) same.earliest h;
    row = λ t o h. h;
    groups = λ s t is may. rw is at may.holds;
  };
  lies = λ vm t a h. (row-lies vm.nfa (kind_of vm) t.earliest t a h).0;
}

-- a step that makes no item is a call that gives the captures which it holds
pub captures-lent : (s t : Steps (WithCache (WithCaptures Pike) PikeCache))
    (reply : Option (Result (Unit {0}) SearchError))
    → takes_bare_steps row_span AsksPikeRow (λ q. filled_answer q.backend.captures) s reply t
    → takes_steps row_span AsksPikeRow (λ q. GivesCaptures q.backend) s
    (held_unless t.done t.backend.backend.captures) t
captures-lent s t reply st = lent-step (λ q. q.backend.captures) never-fails s t reply st
  where
    never-fails : (q : WithCache (WithCaptures Pike) PikeCache) (y : Search) (a : Answer Row)
        (q' : WithCache (WithCaptures Pike) PikeCache) → AsksPikeRow q y a q' → IsOk a
    never-fails q y (Ok o) q' asked = refl
    never-fails q y (Err e) q' asked = absurd asked.tells

-- its iterator
abbrev captures_shell
    : ShellOf (TakesStepWith row_span AsksPikeRow GivesCaptures) (λ (i : Result Captured SearchError). i)
    CapturesMatches
captures_shell = plain_shell pike_captures_next pike_captures (λ s r t st. st.takes)

-- An iterator of vm that begins at x.
module _ (vm : Pike) (x : Search) (s : CapturesMatches) (engine : (pike_captures s).steps.backend.finder ≡ vm)
    (iter_state : steps_iter_state (pike_captures s).steps ≡ fresh x) (going : (pike_captures s).steps.done ≡ false)
  where
    begins : Begins (SearchesAs (filler_searches pike_filler) vm) x (steps_with_state (pike_captures s))
    begins = record { iter_state = iter_state; going = going; good = engine }

    -- the calls give the captures of the NFA
    pub captures-are-given : CapturesGiven pike_captures_next vm.nfa (kind_of vm) x.earliest
        (AnswersRow vm.nfa (kind_of vm) x.earliest) x s
    captures-are-given = captures-given (pike_filler.rows vm x) (steps_in captures_shell) s begins
        (record { fits = s.fits; holds = s.holds })

    -- and no error but `Memory`
    pub captures-take-memory : CapturesMemory pike_captures_next s
    captures-take-memory = captures-memory (pike_filler.rows vm x) (steps_in captures_shell) s begins
        (λ t e from to never. absurd never)

    -- they change the cache only by their searches
    pub captures-by-searches : CapturesBySearches vm x s
    captures-by-searches = record {
      on = shell-leaves (filler_searches pike_filler) (filler_items pike_filler) (steps_in captures_shell) vm s begins;
    }

-- each search keeps the numbers of the cache
abbrev pub captures_kept : KeptBy AsksPikeRow
captures_kept = record {
  Keeps = SameCapacities;
  self = same_capacities;
  then = same_capacities-then;
  asked = λ s x a t asked. asked.work.capacities;
}

-- the calls keep the cache, and its numbers
pub captures-keep-cache : (s : CapturesMatches) → GivesStepsWith pike_captures_next pike_captures SameCapacities s
captures-keep-cache = calls-kept captures_kept captures_shell

-- A backtracker as the engine of an iteration over captures: when its iterator may search, and what it gives.
use Rattle.nfa_paths.proofs.Common.{◌≡◌, false, Result, Ok, Err, ap, arith, length, ◌⊎◌, inr, IfErr, OnOk, slot_count, Search, Captured, IsAnswer, span_len, LeftmostFirst}
use Rattle.nfa_search_base.specs.Common.{CapturesGiven, WithCaptures, GivesCaptures, Row, filled_answer, row_span, DrainsToError, WithCache, TakesStepWith, steps_with_state, steps_iter_state, Answer, fresh, AnswerIsInside}
use Rattle.nfa_search_base.specs.declared.error.SearchError.{SearchError}
use Rattle.nfa_search_base.specs.declared.error.SearchError.TheVariants.{HaystackTooLong, Memory}
use Rattle.nfa_search_base.specs.declared.iter.steps.Steps.{Steps}
use Rattle.nfa_search_base.proofs.CapturesLemmas.{stored_captures-tells, row-lies}
use Rattle.nfa_search_base.proofs.CapturesRunLemmas.{CapturesSteps, captures-given, captures-memory, results_of}
use Rattle.nfa_search_base.proofs.DrainedLemmas.{FillerOf, error-captures, filler_items, filler_searches}
use Rattle.nfa_search_base.proofs.EngineLemmas.{SearchesAs}
use Rattle.nfa_search_base.proofs.LeavingLemmas.{shell-leaves}
use Rattle.nfa_search_base.proofs.OkItemLemmas.{only-item}
use Rattle.nfa_search_base.proofs.RunLemmas.{Begins}
use Rattle.nfa_search_base.proofs.ItemLemmas.{ShellOf, plain_shell, steps_in}
use Rattle.nfa_backtrack.specs.Backtrack.{Backtracker, IsTooLong, BacktrackCache}
use Rattle.nfa_backtrack.specs.Iterators.{AsksBacktrackerRow, CapturesBySearches, backtrack_captures, backtrack_captures_next}
use Rattle.nfa_backtrack.specs.Finding.{AnswersByLength, IsCounted, IsTryCapturesAnswer, SearchesOnce}
use Rattle.nfa_backtrack.specs.declared.captures_iter.TryCapturesMatches.{TryCapturesMatches}
use Rattle.nfa_backtrack.proofs.FindLemmas.{back_engine, counted-fits, counted-refusal, memory-alone, once-by, refused-alone}
use Rattle.nfa_backtrack.specs.Runs.{RunsRefused}

-- A search that fills captures with all slots.
module _ {e : Backtracker} {x : Search} {old new : BacktrackCache} where
  -- what they hold after it is what it answers
  pub filled-tells : (c : Captured) (r : Result (Unit {0}) SearchError)
      → OnOk r (IsAnswer e.nfa LeftmostFirst false x c.pattern c.slots) → length c.slots ≡ slot_count e.nfa.groups
      → IsCounted e x 0 r old new → IsTryCapturesAnswer e x (filled_answer c r)
  filled-tells c (Ok u) answer count counts =
      (counted-fits counts, stored_captures-tells e.nfa LeftmostFirst false x c answer count)
  filled-tells c (Err error) answer count counts = counted-refusal counts

  -- and it is counted as what it is
  pub filled-once : (c : Captured) (r : Result (Unit {0}) SearchError) → IsCounted e x 0 r old new
      → SearchesOnce e x (filled_answer c r) old new
  filled-once c (Ok u) k = once-by k k.answered k.work (omega arith)
  filled-once c (Err error) k = once-by k k.refused k.within (omega arith)

-- an answer is inside the span
pub captures-lie : (e : Backtracker) (t : Search) (a : Answer Row) → IsTryCapturesAnswer e t a
    → AnswerIsInside row_span t a
captures-lie e t (Ok o) h = (row-lies e.nfa LeftmostFirst false t (Ok o) h.1).0
captures-lie e t (Err error) h = tt

-- ---- the engine

-- the rows of the NFA, or refusals
abbrev pub back_filler : FillerOf Backtracker BacktrackCache
back_filler = record {
  engine = back_engine IsTryCapturesAnswer;
  rows = λ e x. record {
    nfa = e.nfa;
    kind = LeftmostFirst;
    earliest = false;
    tells = IsTryCapturesAnswer e;
    given = λ t a same h. h;
    row = λ t o h. h.1;
    groups = λ s t is may. rw is at may.holds;
  };
  lies = captures-lie;
}

-- its iterator
abbrev captures_shell
    : ShellOf (TakesStepWith row_span AsksBacktrackerRow GivesCaptures) (λ (i : Result Captured SearchError). i)
    TryCapturesMatches
captures_shell = plain_shell backtrack_captures_next backtrack_captures (λ s r t st. st.takes)

-- An iterator of e that begins at x.
module _ (e : Backtracker) (x : Search) (s : TryCapturesMatches)
    (engine : (backtrack_captures s).steps.backend.finder ≡ e)
    (iter_state : steps_iter_state (backtrack_captures s).steps ≡ fresh x)
    (going : (backtrack_captures s).steps.done ≡ false) where
  begins : Begins (SearchesAs (filler_searches back_filler) e) x (steps_with_state (backtrack_captures s))
  begins = record { iter_state = iter_state; going = going; good = engine }

  -- the calls give the captures of the NFA
  pub captures-are-given : CapturesGiven backtrack_captures_next e.nfa LeftmostFirst false (IsTryCapturesAnswer e) x s
  captures-are-given = captures-given (back_filler.rows e x) (steps_in captures_shell) s begins
      (record { fits = tt; holds = s.holds })

  -- and errors by the rule of refusals
  pub captures-refused : RunsRefused backtrack_captures_next e x s
  captures-refused = λ p seen from.
      record {
        long = λ long whole. only-item (filler_items back_filler) (results_of (back_filler.rows e x)) x
            (HaystackTooLong (span_len x)) (only-refused long) p.items
            ((captures-are-given.runs p seen from).1 whole).come;
        memory = λ fits.
            captures-memory (back_filler.rows e x) (steps_in captures_shell) s begins (memory-alone e x fits)
            p seen from;
      }
    where
      only-refused : IsTooLong e x → (a : Answer Row) → IsTryCapturesAnswer e x a
          → a ≡ Err (HaystackTooLong (span_len x))
      only-refused long (Ok o) h = absurd (h.0 long)
      only-refused long (Err q) h =
          ap (λ (r : SearchError). let b : Answer Row = Err r in b) (refused-alone e x q long h)

  -- they change the cache only by their searches
  pub captures-by-searches : CapturesBySearches e x s
  captures-by-searches = record {
    on = shell-leaves (filler_searches back_filler) (filler_items back_filler) (steps_in captures_shell) e s begins;
  }

-- the only error of steps that begin at x is `Memory` if the span is not too long
pub captures-by_length : (e : Backtracker) (x : Search)
    {s : Steps (WithCache (WithCaptures Backtracker) BacktrackCache)} {V : Type 0}
    → Begins (SearchesAs (filler_searches back_filler) e) x s → ¬ (IsTooLong e x) → (r : Result V SearchError)
    (t : Steps (WithCache (WithCaptures Backtracker) BacktrackCache))
    → IfErr r (λ error. (error ≡ Memory) ⊎ DrainsToError (CapturesSteps (back_filler.rows e x)) s error t)
    → AnswersByLength e x r
captures-by_length e x begun fits (Ok v) t errors = fits
captures-by_length e x begun fits (Err error) t errors =
    inr (fits, error-captures (back_filler.rows e x) begun (memory-alone e x fits) error t errors)

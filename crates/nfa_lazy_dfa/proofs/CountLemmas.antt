-- What a search spent and read, if then only its stops are counted.
use Rattle.nfa_paths.proofs.Common.{◌≡◌, ◌∙◌, ℕ, ◌+◌, inl, inr, Bool, true, false, Result, Ok, Err, arith, Search}
use Rattle.std.specs.Result.{is_err}
use Rattle.nfa_lazy_dfa.specs.Capacities.{HasNoRoom}
use Rattle.nfa_lazy_dfa.specs.Reads.{HasRead, HasReadSpan, IsOver}
use Rattle.nfa_lazy_dfa.specs.Rows.{IsBounded, KeepsOtherCounts, stops_of}
use Rattle.nfa_lazy_dfa.specs.Stops.{CountsStop}
use Rattle.nfa_lazy_dfa.specs.declared.cache.Cache.{Cache}
use Rattle.nfa_lazy_dfa.specs.declared.dfa.DFA.{DFA}
use Rattle.nfa_lazy_dfa.specs.declared.error.StopError.{StopError}
use Rattle.nfa_lazy_dfa.specs.declared.error.StopError.TheVariants.{GaveUp, Quit, Memory}

-- one stop more at an error
pub CountsStop-err : {A : Type 0} (result : Result A StopError) (a b : Cache) (before : ℕ) (stopped : Bool)
    → before ≡ stops_of a → stopped ≡ is_err result → (stopped ≡ false → stops_of b ≡ before)
    → (stopped ≡ true → stops_of b ≡ before + 1) → CountsStop result a b
CountsStop-err (Ok found) a b before stopped was is none one = none is ∙ was
CountsStop-err (Err e) a b before stopped was is none one =
    let more : stops_of b ≡ before + 1 = one is in omega (arith, was)

module _ (a b c : Cache) (same : KeepsOtherCounts b c) where
  pub IsBounded-stops : (dfa : DFA) (x : Search) → IsBounded a b dfa x → IsBounded a c dfa x
  IsBounded-stops dfa x work = record {
    count = work.count;
    scans = same.scans ∙ work.scans;
    few = work.few;
    steps = omega (arith, work.steps, same.steps);
    rows = omega (arith, work.rows, same.rows, same.steps);
    clears = omega (arith, work.clears, same.clears);
  }

  pub HasRead-stops : (MayEnd : ℕ → Type 0) (from : ℕ) → HasRead MayEnd a b from → HasRead MayEnd a c from
  HasRead-stops MayEnd from reads = record {
    to = reads.to;
    low = reads.low;
    over = reads.over;
    steps = omega (arith, reads.steps, same.steps);
  }

  pub HasReadSpan-stops : (dfa : DFA) (x : Search) → HasReadSpan a b dfa x → HasReadSpan a c dfa x
  HasReadSpan-stops dfa x span = record {
    last = span.last;
    raises = span.raises;
    low = span.low;
    reads = HasRead-stops (IsOver dfa span.last) span.last.start span.reads;
  }

  pub HasNoRoom-stops : (dfa : DFA) (e : StopError) → HasNoRoom a b dfa e → HasNoRoom a c dfa e
  HasNoRoom-stops dfa (GaveUp offset) (inl used) = inl (same.clears ∙ used)
  HasNoRoom-stops dfa (GaveUp offset) (inr large) = inr large
  HasNoRoom-stops dfa (Quit byte offset) full = tt
  HasNoRoom-stops dfa Memory full = tt

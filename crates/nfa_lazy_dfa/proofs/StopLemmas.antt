-- What the error of a search says.
use Rattle.nfa_paths.proofs.Common.{◌≡◌, ◌∙◌, ℕ, ◌+◌, ◌≤◌, List, inl, inr, ap, sym, subst, arith, slice_get, Search, Automaton}
use Rattle.nfa_lazy_dfa.specs.Capacities.{HasNoRoom, IsUsedUpAt, IsUsedUpBy, stop_at}
use Rattle.nfa_lazy_dfa.specs.Rows.{AllowsClears, ScansAtMost}
use Rattle.nfa_lazy_dfa.specs.Stops.{IsInSpan, IsStop}
use Rattle.nfa_lazy_dfa.specs.declared.cache.Cache.{Cache}
use Rattle.nfa_lazy_dfa.specs.declared.dfa.DFA.{DFA}
use Rattle.nfa_lazy_dfa.specs.declared.error.GaveUp as reason
use Rattle.nfa_lazy_dfa.specs.declared.error.GaveUp.TheVariants as reasons
use Rattle.nfa_lazy_dfa.specs.declared.error.StopError.{StopError}
use Rattle.nfa_lazy_dfa.specs.declared.error.StopError.TheVariants.{GaveUp, Quit, Memory}

-- a cache that is full, or memory that ran out, at an offset of the span
pub IsStop-gave_up : (nfa : Automaton) (x : Search) (e : StopError) (why : reason.GaveUp) (offset : ℕ)
    → e ≡ stop_at why offset → IsInSpan x offset → IsStop nfa x e
IsStop-gave_up nfa x e why offset is span = subst (IsStop nfa x) (sym is) (of why)
  where
    of : (why : reason.GaveUp) → IsStop nfa x (stop_at why offset)
    of reasons.Full = span
    of reasons.Memory = tt

-- why there is no room for a row is why the scan stops
pub IsUsedUp-at : (c : Cache) (dfa : DFA) (e : StopError) (why : reason.GaveUp) (offset : ℕ) → e ≡ stop_at why offset
    → IsUsedUpBy c dfa why → IsUsedUpAt c dfa e
IsUsedUp-at c dfa e why offset is used = subst (IsUsedUpAt c dfa) (sym is) (of why used)
  where
    of : (why : reason.GaveUp) → IsUsedUpBy c dfa why → IsUsedUpAt c dfa (stop_at why offset)
    of reasons.Full used = used
    of reasons.Memory used = tt

-- a search that may clear no more has cleared as often as it may
pub HasNoRoom-scans : (a b c : Cache) (dfa : DFA) (x : Search) → AllowsClears a b dfa → ScansAtMost b c x
    → (e : StopError) → IsUsedUpAt c dfa e → HasNoRoom a c dfa e
HasNoRoom-scans a b c dfa x allows work (GaveUp offset) (inl none) =
    inl (omega (arith, work.scans.clears, allows.cleared, allows.clears))
HasNoRoom-scans a b c dfa x allows work (GaveUp offset) (inr large) = inr large
HasNoRoom-scans a b c dfa x allows work (Quit byte offset) used = tt
HasNoRoom-scans a b c dfa x allows work Memory used = tt

-- the error of a search of a part of the span, from some position to its end, is one of the whole search
pub IsStop-later : (nfa : Automaton) (x y : Search) → y.haystack ≡ x.haystack → y.end ≡ x.end → x.start ≤ y.start
    → (e : StopError) → IsStop nfa y e → IsStop nfa x e
IsStop-later nfa x y same end low (GaveUp offset) stop =
    let from : y.start ≤ offset = stop.low in
    let to : offset ≤ y.end = stop.high in
    record { low = omega arith; high = omega arith }
IsStop-later nfa x y same end low (Quit byte offset) stop =
    let from : y.start ≤ offset + 1 = stop.low in
    let to : offset ≤ y.end = stop.high in
    record {
      quit = stop.quit;
      is = ap (λ (h : List ℕ). slice_get h offset) (sym same) ∙ stop.is;
      low = omega arith;
      high = omega arith;
    }
IsStop-later nfa x y same end low Memory stop = tt

-- What is left of a search from a first start on has its answers, and a search without an accepting path has none.
use Rattle.nfa_paths.proofs.Common.{false, refl, sym, subst, arith, None, Option, Some, IfNone, IfSome, Search, MatchKind, Automaton, IsBoolAnswer, IsFindAnswer, IsHalfAnswer}
use Rattle.nfa_engines.specs.Laws.{MatchesNothing, OfSlots}
use Rattle.nfa_engines.specs.StartLaws.{IsUnbound, StartsArePassed}
use Rattle.nfa_facts.specs.PrefixLaws.{NothingIsNoAnswer, NothingIsNoHalfMatch, NothingIsNoMatch, NothingIsNotFound}
use Rattle.nfa_meta.specs.Windowed.{IsRestOf, IsWindowed}
use Rattle.nfa_meta.specs.WindowRuns.{AnswersAs, HalvesAs, HasNoHalf, HasNoMatch, IsWindowOf}

module _ (nfa : Automaton) (x y : Search) (rest : IsRestOf nfa x y) where
  -- it is the search of a window
  pub rest-is : IsWindowed nfa x → IsWindowOf nfa x y
  rest-is windowed =
      let from = rest.first.from in
      subst (λ (z : Search). IsWindowOf nfa x z) (sym rest.is)
      (record {
        windowed = windowed;
        haystack = refl;
        anchored = refl;
        earliest = refl;
        from = from;
        to = omega arith;
      })

  module _ (unbound : IsUnbound nfa x) (kind : MatchKind) where
    pub rest-answers : OfSlots StartsArePassed → StartsArePassed IsFindAnswer → AnswersAs nfa kind x y
    rest-answers rows matches =
        subst (λ (z : Search). AnswersAs nfa kind x z) (sym rest.is)
        (record {
          rows = λ pattern slots. (rows pattern nfa x y.start kind x.earliest slots unbound rest.first).1;
          matches = λ found. (matches nfa x y.start kind x.earliest found unbound rest.first).1;
        })

    pub rest-halves : StartsArePassed IsHalfAnswer → StartsArePassed IsBoolAnswer → HalvesAs nfa kind x y
    rest-halves halves found =
        subst (λ (z : Search). HalvesAs nfa kind x z) (sym rest.is)
        (record {
          earliest = refl;
          halves = λ half. (halves nfa x y.start kind x.earliest half unbound rest.first).1;
          found = λ answer. (found nfa x y.start kind false answer unbound rest.first).1;
        })

-- what each part has is true of the part, if there is one
pub of-part : {A : Type 0} {P Q : A → Type 0} → ((a : A) → P a → Q a) → (part : Option A) → IfSome part P
    → IfSome part Q
of-part each None h = tt
of-part each (Some a) h = each a h

-- the same, if there is no part
pub none-weaker : {A P Q : Type 0} → (P → Q) → (part : Option A) → IfNone part P → IfNone part Q
none-weaker then None h = then h
none-weaker then (Some a) h = tt

-- a search has its own half matches
pub halves-self : (nfa : Automaton) (kind : MatchKind) (x : Search) → HalvesAs nfa kind x x
halves-self nfa kind x = record { earliest = refl; halves = λ half h. h; found = λ found h. h }

module _ (nfa : Automaton) (kind : MatchKind) (x : Search) (none : MatchesNothing nfa x) where
  pub nothing-left : NothingIsNoAnswer → NothingIsNoMatch → HasNoMatch nfa kind x
  nothing-left rows matches = record {
    rows = λ n. rows nfa kind x.earliest x n none;
    matches = matches nfa kind x.earliest x none;
  }

  pub no-half-left : NothingIsNoHalfMatch → NothingIsNotFound → HasNoHalf nfa kind x
  no-half-left halves found = record {
    half = halves nfa kind x.earliest x none;
    found = found nfa kind false x none;
  }

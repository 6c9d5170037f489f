-- What ran in a search, from what ran after its first part, in which only the lazy DFA searched.
use Rattle.nfa_paths.proofs.Common.{Err, Ok, Result, ◌≡◌, ◌∙◌, ◌≤◌, inl, inr, IfErr, IfNone, IfSome, Option, None, Some, arith, subst, Search, search_of, Input}
use Rattle.nfa_choice.specs.ChoiceState.{ChoiceState, SearchedByRule, kind_in}
use Rattle.nfa_meta.specs.RegexState.{KeepsRegex, RegexState}
use Rattle.nfa_meta.specs.Windowed.{HasNoWindows}
use Rattle.nfa_meta.specs.WindowRuns.{EndsAtMatch, IsWindowOf, NeedsPart, NeedsWhole, RunsByWindow, SearchedWhole, SearchedWindow}
use Rattle.nfa_meta.proofs.PrefixLemmas.{of-part}

module _ (a b c : RegexState) (same : b.choice ≡ a.choice) where
  pub runs-later : (x : Search) → KeepsRegex a b → RunsByWindow x b c → RunsByWindow x a c
  runs-later x keeps (inl (inl none)) = inl (inl (none ∙ same))
  runs-later x keeps (inl (inr ran)) = inl (inr (record {
    stopped = omega (arith, keeps.stops, ran.stopped);
    runs = subst (λ (s : ChoiceState). SearchedByRule x s c.choice) same ran.runs;
  }))
  runs-later x keeps (inr (inl w)) =
      inr (inl (subst (λ (s : ChoiceState). SearchedWindow x s c.choice) same w))
  runs-later x keeps (inr (inr w)) = inr (inr (subst (λ (s : ChoiceState). SearchedWhole x s c.choice) same w))

  -- the choice searched the whole span
  pub whole-ran : (x : Search) → NeedsWhole x a b → b.stops ≤ c.stops → SearchedByRule x b.choice c.choice
      → RunsByWindow x a c
  whole-ran x (inl whole) less ran = inr (inr (record {
    whole = whole;
    runs = subst (λ (s : ChoiceState). SearchedByRule x s c.choice) same ran;
  }))
  whole-ran x (inr stopped) less ran = inl (inr (record {
    stopped = omega (arith, stopped, less);
    runs = subst (λ (s : ChoiceState). SearchedByRule x s c.choice) same ran;
  }))

  -- or the part that has the answer
  pub part-ran : (x y : Search) → NeedsPart x y a b → b.stops ≤ c.stops → SearchedByRule y b.choice c.choice
      → RunsByWindow x a c
  part-ran x y (inl found) less ran = inr (inl (record {
    window = y;
    is = found.0;
    ends = found.1;
    runs = subst (λ (s : ChoiceState). SearchedByRule y s c.choice) same ran;
  }))
  part-ran x y (inr whole) less ran =
      whole-ran x whole.1 less (subst (λ (z : Search). SearchedByRule z b.choice c.choice) whole.0 ran)

  -- the part is needed as before
  pub needs-later : (x y : Search) → KeepsRegex a b → NeedsPart x y b c → NeedsPart x y a c
  needs-later x y keeps (inl found) = inl (
    subst (λ (s : ChoiceState). IsWindowOf s.nfa x y) same found.0,
    subst (λ (s : ChoiceState). EndsAtMatch s.nfa (kind_in s) x y) same found.1,
  )
  needs-later x y keeps (inr whole) = inr (whole.0, of whole.1)
    where
      of : NeedsWhole x b c → NeedsWhole x a c
      of (inl none) = inl (subst (λ (s : ChoiceState). HasNoWindows s.nfa x) same none)
      of (inr stopped) = inr (omega (arith, keeps.stops, stopped))

  pub parts-later : {A : Type 0} (result : Result A (Option Input)) (x : Search) → KeepsRegex a b
      → IfErr result (λ rest. IfSome rest (λ part. NeedsPart x (search_of part) b c))
      → IfErr result (λ rest. IfSome rest (λ part. NeedsPart x (search_of part) a c))
  parts-later (Ok found) x keeps h = tt
  parts-later (Err rest) x keeps h = of-part (λ part. needs-later x (search_of part) keeps) rest h

  -- the choice searched the part, if there is one
  pub parts-ran : (x : Search) (part : Option Input) → IfSome part (λ y. NeedsPart x (search_of y) a b)
      → b.stops ≤ c.stops → IfNone part (c.choice ≡ b.choice)
      → IfSome part (λ y. SearchedByRule (search_of y) b.choice c.choice) → RunsByWindow x a c
  parts-ran x None why less none ran = inl (inl (none ∙ same))
  parts-ran x (Some y) why less none ran = part-ran x (search_of y) why less ran

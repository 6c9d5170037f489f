-- What lists add to the totals of both caches of a choice, whichever engines its searches run.
use Rattle.regex_search_core.specs.declared.search.MatchKind.TheVariants.{All}
use Rattle.nfa_paths.proofs.Common.{◌≡◌, ◌∙◌, ◌⊎◌, ◌+◌, ◌*◌, Bool, true, false, List, length, None, Some, Ok, Err, refl, ap, subst, inl, inr, not, and_parts, HalfFound, Search, Span, MatchKind, LeftmostFirst, span_len}
use Rattle.nfa_search_base.specs.Common.{Answer, answer_span, half_span_of, row_span, DoesSearch, span_of}
use Rattle.nfa_search_base.proofs.StepLemmas.{chosen}
use Rattle.nfa_engines.specs.IterationLaws.{Totals, backtracker_totals, list_scan_limit, pike_totals}
use Rattle.nfa_engines.proofs.EngineWorkLemmas.{Hit, WorkOf, Worked, calls-add, half-hit, list-adds, match-hit, no-hit, row-hit, work-within, worked}
use Rattle.nfa_pikevm.specs.Engines.{Pike, kind_of}
use Rattle.nfa_choice.specs.ChoiceState.{BacktrackerRan, ChoiceState, FellBackToPike, SearchedByRule, is_for_backtracker, is_leftmost_first, kind_in, pike_of}
use Rattle.nfa_choice.specs.Iterations.{ChoiceEngine, FindsBy, SearchesBy, TellsMatch, TellsRow}
use Rattle.nfa_choice.specs.HalfIterations.{HalvesOn, HalvesToEnd, TellsHalf}
use Rattle.nfa_choice.specs.WorkLaws.{CapturesCostWithin, ChoiceAddsAtMost, FindsWithin, MatchesAreWithin, RowsAreWithin}
use Rattle.nfa_choice.proofs.FindLemmas.{KeepsChoice, pike-kept}

-- a half match that a search gives is in its span
pub half-told : (vm : Pike) (y : Search) (a : Answer HalfFound) → TellsHalf vm y a
    → Hit vm.nfa (kind_of vm) y.earliest y (answer_span half_span_of a)
half-told vm y (Ok (Some half)) h = half-hit vm.nfa (kind_of vm) y.earliest y half h
half-told vm y (Ok None) h = no-hit vm.nfa (kind_of vm) y.earliest y
half-told vm y (Err error) h = no-hit vm.nfa (kind_of vm) y.earliest y

-- what a search for the backtracker asks
leftmost : (kind : MatchKind) → is_leftmost_first kind ≡ true → LeftmostFirst ≡ kind
leftmost LeftmostFirst is = refl
leftmost All is = cc

not-asked : (earliest : Bool) → not earliest ≡ true → false ≡ earliest
not-asked false is = refl
not-asked true is = cc

-- the totals of either cache
abbrev pub back_in : ChoiceState → Totals
back_in c = backtracker_totals c.back

abbrev pub pike_in : ChoiceState → Totals
pike_in c = pike_totals c.pike

-- a search is work of one search, or none, by these totals
abbrev pub Does : (ChoiceState → Totals) → Search → ChoiceState → ChoiceState → Type 0
Does totals y s t = Worked s.nfa (kind_in s) y.earliest y (totals s) (totals t) ⊎ (totals t ≡ totals s)

-- such is the work of a search by the rule
module _ (y : Search) (s t : ChoiceState) (runs : SearchedByRule y s t) where
  pub back-runs : Does back_in y s t
  back-runs = elim (chosen (is_for_backtracker s y) runs) [
    | inl p ↦
        let parts = and_parts _ _ p.0 in
        let rest = and_parts _ _ parts.1 in
        inl
        (subst (λ (k : MatchKind). Worked s.nfa k y.earliest y (back_in s) (back_in t)) (leftmost (kind_in s) parts.0)
        (subst (λ (b : Bool). Worked s.nfa LeftmostFirst b y (back_in s) (back_in t)) (not-asked y.earliest rest.0)
        (of p.1)))
    | inr p ↦ inr (ap backtracker_totals p.1.back)
  ]
    where
      of : BacktrackerRan y y.earliest s t ⊎ FellBackToPike y y.earliest s t
          → Worked s.nfa LeftmostFirst false y (back_in s) (back_in t)
      of (inl h) = worked (work-within h.exact) h.bounded.scans h.bounded.turns h.work.scans h.work.turns
      of (inr h) =
          worked h.tried_within h.tried_bounded.scans h.tried_bounded.turns h.tried.scans h.tried.turns

  pub pike-runs : Does pike_in y s t
  pike-runs = elim (chosen (is_for_backtracker s y) runs) [
    | inl p ↦ of p.1
    | inr p ↦
        inl (worked (work-within p.1.exact) p.1.bounded.scans p.1.bounded.turns p.1.work.scans p.1.work.turns)
  ]
    where
      of : BacktrackerRan y y.earliest s t ⊎ FellBackToPike y y.earliest s t → Does pike_in y s t
      of (inl h) = inr (ap pike_totals h.pike)
      of (inr h) =
          inl (worked (work-within h.exact) h.bounded.scans h.bounded.turns h.work.scans h.work.turns)

-- each search of an engine is such work
abbrev pub DoesBy : {C : Type 0} → (ChoiceState → Totals) → ChoiceEngine C → Type 0
DoesBy {C = C} totals e = (y : Search) (s t : C) → e.Runs y s t → Does totals y (e.choice s) (e.choice t)

-- Each search answers a match or a row, and does work by these totals.
module _ {C : Type 0} {e : ChoiceEngine C} (keeps : KeepsChoice e) (totals : ChoiceState → Totals)
    (does : DoesBy totals e) (c : ChoiceState) where
  -- it answers as c does
  abbrev IsOf : C → Type 0
  IsOf s = pike_of (e.choice s) ≡ pike_of c

  -- what was done so far
  abbrev done : C → Totals
  done s = totals (e.choice s)

  works : (y : Search) (s t : C) → IsOf s → e.Runs y s t → e.Keeps s t
      → (Worked c.nfa (kind_in c) y.earliest y (done s) (done t) ⊎ (done t ≡ done s)) × IsOf t
  works y s t is runs kept = (
    subst (λ (vm : Pike). Worked vm.nfa (kind_of vm) y.earliest y (done s) (done t) ⊎ (done t ≡ done s)) is
        (does y s t runs),
    pike-kept (e.choice s) (e.choice t) (keeps.engines s t kept) ∙ is,
  )

  -- the work of searches that answer so, and run and keep what the engine does
  abbrev searches_work : {X : Type 0} {span : X → Span} {Tells : Search → Answer X → Type 0}
      {Asked : Search → C → C → Type 0}
      → ((y : Search) (a : Answer X) → Tells y a → Hit c.nfa (kind_in c) y.earliest y (answer_span span a))
      → ((y : Search) (s t : C) → Asked y s t → e.Runs y s t × e.Keeps s t)
      → WorkOf span (DoesSearch Tells (λ y a. Asked y))
  searches_work hits did = record {
    nfa = c.nfa;
    kind = kind_in c;
    early = λ y. y.earliest;
    totals = done;
    Good = IsOf;
    hits = λ s y a t asked. hits y a asked.tells;
    works = λ s y a t is asked. let by = did y s t asked.work in works y s t is by.0 by.1;
  }

  abbrev finds_work : WorkOf span_of (DoesSearch (TellsMatch c) (λ y a. FindsBy e y))
  finds_work = searches_work (λ y a. match-hit c.nfa (kind_in c) y.earliest y a) (λ y s t by. (by.runs, by.keeps))

  abbrev captures_work : WorkOf row_span (DoesSearch (TellsRow c) (λ y a. SearchesBy e y))
  captures_work = searches_work (λ y a. row-hit c.nfa (kind_in c) y.earliest y a) (λ y s t by. (by.runs, by.keeps))

  abbrev halves_work : WorkOf half_span_of (DoesSearch (TellsHalf (pike_of c)) (λ y a. SearchesBy e y))
  halves_work = searches_work (half-told (pike_of c)) (λ y s t by. (by.runs, by.keeps))

-- So it does by those of both caches.
module _ {C : Type 0} {e : ChoiceEngine C} (keeps : KeepsChoice e) (back : DoesBy back_in e) (pike : DoesBy pike_in e)
  where
    pub matches-within : MatchesAreWithin e list_scan_limit
    matches-within x ms c d h = record {
      back = list-adds (finds_work keeps back_in back (e.choice c)) x ms c d refl h;
      pike = list-adds (finds_work keeps pike_in pike (e.choice c)) x ms c d refl h;
    }

    pub rows-within : RowsAreWithin e list_scan_limit
    rows-within x rows c d h = record {
      back = list-adds (captures_work keeps back_in back (e.choice c)) x rows c d refl h;
      pike = list-adds (captures_work keeps pike_in pike (e.choice c)) x rows c d refl h;
    }

    pub finds-within : FindsWithin e 3
    finds-within x c d h = record {
      back = calls-add (finds_work keeps back_in back (e.choice c)) x c d refl h;
      pike = calls-add (finds_work keeps pike_in pike (e.choice c)) x c d refl h;
    }

    pub captures-stay-within : CapturesCostWithin e 3
    captures-stay-within x c d h = record {
      back = calls-add (captures_work keeps back_in back (e.choice c)) x c d refl h;
      pike = calls-add (captures_work keeps pike_in pike (e.choice c)) x c d refl h;
    }

    -- half matches cost what matches do
    pub halves-within : (x : Search) (ms : List HalfFound) (c d : C)
        → HalvesToEnd (λ s. pike_of (e.choice s)) (SearchesBy e) x ms c d
        → ChoiceAddsAtMost (list_scan_limit (e.choice c).nfa x (length ms)) x (e.choice c) (e.choice d)
    halves-within x ms c d h = record {
      back = list-adds (halves_work keeps back_in back (e.choice c)) x ms c d refl h;
      pike = list-adds (halves_work keeps pike_in pike (e.choice c)) x ms c d refl h;
    }

    pub halves-stay-within : (x : Search) (c d : C) → HalvesOn (λ s. pike_of (e.choice s)) (SearchesBy e) x c d
        → ChoiceAddsAtMost (2 * span_len x + 3) x (e.choice c) (e.choice d)
    halves-stay-within x c d h = record {
      back = calls-add (halves_work keeps back_in back (e.choice c)) x c d refl h;
      pike = calls-add (halves_work keeps pike_in pike (e.choice c)) x c d refl h;
    }

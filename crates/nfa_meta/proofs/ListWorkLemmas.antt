-- What iterations of a regex cost the engines of its choice.
use Rattle.nfa_paths.proofs.Common.{◌+◌, ◌*◌, ◌≤◌, ◌≡◌, ◌∙◌, ℕ, List, [], ◌∷◌, Bool, arith, inl, inr, length, map, refl, sym, subst, Ok, Err, None, Option, Some, Found, HalfFound, HalfMatch, found_of, half_found_of, Match, MatchKind, Search, Span, Automaton, span_len}
use Rattle.std.proofs.lemmas.List.{length-map}
use Rattle.nfa_search_base.specs.Common.{Advances, Answer, DoesSearch, IterState, Row, SameButStart, StepsLead, after, answer_span, answers_to_end, fresh, half_span_of, repeats, row_span, shifted, span_of}
use Rattle.nfa_search_base.proofs.AskingLemmas.{same_start-self, same_start-then}
use Rattle.nfa_search_base.proofs.StepLemmas.{chosen, same_start-after, same_start-shifted}
use Rattle.nfa_engines.specs.IterationLaws.{list_scan_limit}
use Rattle.nfa_engines.proofs.EngineWorkLemmas.{Hit, match-hit, row-hit}
use Rattle.nfa_choice.specs.ChoiceState.{kind_in}
use Rattle.nfa_choice.specs.Iterations.{CapturesOn, CapturesToEnd, FindsBy, FindsOn, FindsToEnd, SearchesBy, TellsMatch, TellsRow}
use Rattle.nfa_choice.specs.HalfIterations.{HalvesOn, HalvesToEnd, TellsHalf}
use Rattle.nfa_choice.proofs.WorkLemmas.{captures-stay-within, finds-within, half-told, halves-stay-within, halves-within, matches-within, rows-within}
use Rattle.nfa_meta.specs.Halves.{FindsHalfAfterDfa}
use Rattle.nfa_meta.specs.RegexState.{RegexState, pike_of}
use Rattle.nfa_meta.specs.WindowRuns.{by_window}
use Rattle.nfa_meta.specs.Work.{WorksWithin}
use Rattle.nfa_meta.proofs.RegexLemmas.{ends_keeps, regex_keeps}
use Rattle.nfa_meta.proofs.WorkLemmas.{Holds, back-ends, back-windows, half-rests, holds-search, holds-self, holds-then, pike-ends, pike-windows, works-of}

-- y is x from its start or from further on
abbrev IsPartOf : Search → Search → Type 0
IsPartOf x y = SameButStart x y × (x.start ≤ y.start)

-- the match, if there is one, ends at the start of the search or after it
abbrev EndsOnward : Search → Option Span → Type 0
EndsOnward y None = Unit {0}
EndsOnward y (Some p) = y.start ≤ p.end

hit-onward : (nfa : Automaton) (kind : MatchKind) (earliest : Bool) (y : Search) (match : Option Span)
    → Hit nfa kind earliest y match → EndsOnward y match
hit-onward nfa kind earliest y None h = tt
hit-onward nfa kind earliest y (Some p) h = h.known.0

part-short : (x y : Search) → IsPartOf x y → span_len y ≤ span_len x
part-short x y part = let end = part.0.end in let from = part.1 in omega (arith, end, from)

-- the search after a match is a part of x, too
part-after : (x : Search) (w : IterState) (match : Option Span) → IsPartOf x w.at → EndsOnward w.at match
    → IsPartOf x (after w match).at
part-after x w None part on = part
part-after x w (Some p) part on = (
  same_start-then x w.at (after w (Some p)).at part.0 (same_start-after w (Some p)),
  let from = part.1 in omega (arith, from, on),
)

-- What searches of parts of x relate, one after another. A match is an X, which lies at `span`.
record RelatesParts {S X : Type 0} (span : X → Span) (asks : S → Search → Answer X → S → Type 0) (x : Search)
    (Relates : S → S → Type 0) : Type 0 where
  self : (s : S) → Relates s s
  then : (a b c : S) → Relates a b → Relates b c → Relates a c
  onward : (s : S) (y : Search) (a : Answer X) (t : S) → asks s y a t → EndsOnward y (answer_span span a)
  each : (s : S) (y : Search) (a : Answer X) (t : S) → IsPartOf x y → asks s y a t → Relates s t

-- the steps of an iteration over x relate it
module _ {S X : Type 0} {span : X → Span} {asks : S → Search → Answer X → S → Type 0} {x : Search}
    {Relates : S → S → Type 0} (by : RelatesParts span asks x Relates) where
  step-relates : (s : S) (w : IterState) (a : Answer X) (t : S) (v : IterState) → IsPartOf x w.at
      → Advances span asks s w a t v → Relates s t × IsPartOf x v.at
  step-relates s w a t v part step =
      let first = by.each s w.at step.answer step.between part step.first in
      let on = by.onward s w.at step.answer step.between step.first in
      elim (chosen (repeats w (answer_span span step.answer)) step.rest) [
        | inl p ↦
            let next : IsPartOf x (shifted w).at = (
              same_start-then x w.at (shifted w).at part.0 (same_start-shifted w),
              let from = part.1 in omega (arith, from),
            ) in (
              by.then s step.between t first (by.each step.between (shifted w).at a t next p.1.0),
              rw p.1.1 (part-after x (shifted w) (answer_span span a) next
                  (by.onward step.between (shifted w).at a t p.1.0)),
            )
        | inr p ↦
            let same : EndsOnward w.at (answer_span span a) = rw p.1.0 on in (
              subst (Relates s) (sym p.1.1) first,
              rw p.1.2 (part-after x w (answer_span span a) part same),
            )
      ]

  steps-relate : (w : IterState) (s : S) (answers : List (Answer X)) (t : S) → IsPartOf x w.at
      → StepsLead span asks w s answers t → Relates s t
  steps-relate w s [] t part same = subst (Relates s) (sym same) (by.self s)
  steps-relate w s (Ok (Some m) ∷ rest) t part steps =
      let one = step-relates s w (Ok (Some m)) steps.0 steps.1 part steps.2 in
      by.then s steps.0 t one.0 (steps-relate steps.1 steps.0 rest t one.1 steps.3)
  steps-relate w s (Ok None ∷ rest) t part steps = (step-relates s w (Ok None) t steps.0 part steps.1).0
  steps-relate w s (Err error ∷ rest) t part steps = (step-relates s w (Err error) t steps.0 part steps.1).0

  -- from its beginning
  leads-relate : (s : S) (answers : List (Answer X)) (t : S) → StepsLead span asks (fresh x) s answers t → Relates s t
  leads-relate s answers t steps =
      steps-relate (fresh x) s answers t (same_start-self x, omega arith) steps

-- the slots that a search for a match may add
abbrev pub match_slots : Automaton → ℕ
match_slots nfa = 2 * length nfa.groups

-- and those that a search for captures may add
abbrev pub no_slots : Automaton → ℕ
no_slots nfa = 0

-- ---- matches

module _ (c : RegexState) (x : Search) where
  abbrev asks_match : RegexState → Search → Answer Found → RegexState → Type 0
  asks_match = DoesSearch (TellsMatch c.choice) (λ y a. FindsBy by_window y)

  matches_hold : RelatesParts span_of asks_match x (Holds match_slots x)
  matches_hold = record {
    self = holds-self match_slots x;
    then = holds-then match_slots x;
    onward = λ s y a t asked.
        let hit = match-hit c.choice.nfa (kind_in c.choice) y.earliest y a asked.tells in
        hit-onward c.choice.nfa (kind_in c.choice) y.earliest y (answer_span span_of a) hit;
    each = λ s y a t part asked.
        holds-search match_slots x y s t (part-short x y part) asked.work.runs asked.work.holds asked.work.keeps;
  }

pub finds-work : (x : Search) (s t : RegexState) → FindsOn by_window x s t
    → WorksWithin (2 * span_len x + 3) (match_slots s.choice.nfa) x s t
finds-work x s t on =
    works-of match_slots (2 * span_len x + 3) x s t (finds-within regex_keeps back-windows pike-windows x s t on)
    (leads-relate (matches_hold s x) s on.answers t on.steps)

pub matches-work : (x : Search) (ms : List Match) (s t : RegexState) → FindsToEnd by_window x (map found_of ms) s t
    → WorksWithin (list_scan_limit s.choice.nfa x (length ms)) (match_slots s.choice.nfa) x s t
matches-work x ms s t end =
    let limit = list_scan_limit s.choice.nfa x in
    let held = leads-relate (matches_hold s x) s (answers_to_end (map found_of ms)) t end.steps in
    subst (λ (n : ℕ). WorksWithin (limit n) (match_slots s.choice.nfa) x s t) (length-map ms found_of)
    (works-of match_slots (limit (length (map found_of ms))) x s t
    (matches-within regex_keeps back-windows pike-windows x (map found_of ms) s t end) held)

-- ---- captures

module _ (c : RegexState) (x : Search) where
  abbrev asks_row : RegexState → Search → Answer Row → RegexState → Type 0
  asks_row = DoesSearch (TellsRow c.choice) (λ y a. SearchesBy by_window y)

  rows_hold : RelatesParts row_span asks_row x (Holds no_slots x)
  rows_hold = record {
    self = holds-self no_slots x;
    then = holds-then no_slots x;
    onward = λ s y a t asked.
        let hit = row-hit c.choice.nfa (kind_in c.choice) y.earliest y a asked.tells in
        hit-onward c.choice.nfa (kind_in c.choice) y.earliest y (answer_span row_span a) hit;
    each = λ s y a t part asked.
        holds-search no_slots x y s t (part-short x y part) asked.work.runs asked.work.holds asked.work.keeps;
  }

pub captures-work : (x : Search) (s t : RegexState) → CapturesOn by_window x s t
    → WorksWithin (2 * span_len x + 3) 0 x s t
captures-work x s t on =
    works-of no_slots (2 * span_len x + 3) x s t
    (captures-stay-within regex_keeps back-windows pike-windows x s t on)
    (leads-relate (rows_hold s x) s on.answers t on.steps)

pub rows-work : (x : Search) (rows : List Row) (s t : RegexState) → CapturesToEnd by_window x rows s t
    → WorksWithin (list_scan_limit s.choice.nfa x (length rows)) 0 x s t
rows-work x rows s t end =
    works-of no_slots (list_scan_limit s.choice.nfa x (length rows)) x s t
    (rows-within regex_keeps back-windows pike-windows x rows s t end)
    (leads-relate (rows_hold s x) s (answers_to_end rows) t end.steps)

-- ---- half matches

-- no engine of the choice searches if the lazy DFA does not stop
abbrev Rests : RegexState → RegexState → Type 0
Rests s t = (s.stops ≤ t.stops) × (t.stops ≡ s.stops → t.choice ≡ s.choice)

rests-then : (a b c : RegexState) → Rests a b → Rests b c → Rests a c
rests-then a b c f g = (
  omega (arith, f.0, g.0),
  λ same.
      let first : b.stops ≡ a.stops = omega (arith, f.0, g.0, same) in
      let second : c.stops ≡ b.stops = omega (arith, f.0, g.0, same) in
      g.1 second ∙ f.1 first,
)

module _ (c : RegexState) (x : Search) where
  abbrev asks_half : RegexState → Search → Answer HalfFound → RegexState → Type 0
  asks_half = DoesSearch (TellsHalf (pike_of c)) (λ y a. FindsHalfAfterDfa y)

  half-onward : (s : RegexState) (y : Search) (a : Answer HalfFound) (t : RegexState) → asks_half s y a t
      → EndsOnward y (answer_span half_span_of a)
  half-onward s y a t asked =
      hit-onward c.choice.nfa (kind_in c.choice) y.earliest y (answer_span half_span_of a)
      (half-told (pike_of c) y a asked.tells)

  halves_hold : RelatesParts half_span_of asks_half x (Holds no_slots x)
  halves_hold = record {
    self = holds-self no_slots x;
    then = holds-then no_slots x;
    onward = half-onward;
    each = λ s y a t part asked. holds-search no_slots x y s t (part-short x y part) (inl asked.work.runs)
        asked.work.holds asked.work.keeps;
  }

  halves_rest : RelatesParts half_span_of asks_half x Rests
  halves_rest = record {
    self = λ s. (omega arith, λ same. refl);
    then = rests-then;
    onward = half-onward;
    each = λ s y a t part asked. (asked.work.keeps.stops, half-rests y y.earliest s t asked.work.runs);
  }

pub halves-work : (x : Search) (s t : RegexState) → HalvesOn pike_of FindsHalfAfterDfa x s t
    → WorksWithin (2 * span_len x + 3) 0 x s t
halves-work x s t on =
    works-of no_slots (2 * span_len x + 3) x s t
    (halves-stay-within ends_keeps back-ends pike-ends x s t on)
    (leads-relate (halves_hold s x) s on.answers t on.steps)

pub halves-rest : (x : Search) (s t : RegexState) → HalvesOn pike_of FindsHalfAfterDfa x s t → t.stops ≡ s.stops
    → t.choice ≡ s.choice
halves-rest x s t on = (leads-relate (halves_rest s x) s on.answers t on.steps).1

pub all_halves-work : (x : Search) (ms : List HalfMatch) (s t : RegexState)
    → HalvesToEnd pike_of FindsHalfAfterDfa x (map half_found_of ms) s t
    → WorksWithin (list_scan_limit s.choice.nfa x (length ms)) 0 x s t
all_halves-work x ms s t end =
    let limit = list_scan_limit s.choice.nfa x in
    let held = leads-relate (halves_hold s x) s (answers_to_end (map half_found_of ms)) t end.steps in
    subst (λ (n : ℕ). WorksWithin (limit n) 0 x s t) (length-map ms half_found_of)
    (works-of no_slots (limit (length (map half_found_of ms))) x s t
    (halves-within ends_keeps back-ends pike-ends x (map half_found_of ms) s t end) held)

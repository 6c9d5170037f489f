-- The captures of a whole text, the first of them, and those that steps give.
use Rattle.std.specs.Prelude.{not}
use Rattle.nfa_paths.proofs.Common.{◌≡◌, ◌∙◌, ◌<◌, ◌≤◌, inl, inr, ℕ, zero, suc, List, [], ◌∷◌, ◌++◌, Bool, false, true, Ok, Result, map, take, ap, arith, length, refl, subst, sym, take_at, All, All-append, All-cons, All-map, All-nil, Automaton, MatchKind, Option, None, Some, take-map, Found, Search, whole, Captured}
use Rattle.nfa_search_base.specs.Common.{AnswersRow, AreFirstRows, AreRows, CapturesGiven, Fails, ItemsLast, IterState, Row, after, fresh, row_span, CapturesInside, HasGroups, MutBor, StepsWith, WithCache, WithCaptures, Yields, held_unless, items_left, match_in, steps_iter_state, AreDisjoint, row_of, with_cache}
use Rattle.nfa_search_base.specs.declared.error.SearchError.{SearchError}
use Rattle.nfa_search_base.specs.declared.iter.steps.Steps.{Steps}
use Rattle.nfa_search_base.proofs.CapturesLemmas.{one-row, rows-exist}
use Rattle.nfa_search_base.proofs.DrainedLemmas.{given-drained, given-turn}
use Rattle.nfa_search_base.proofs.ListLemmas.{as_items, step-asked, values-rest}
use Rattle.nfa_search_base.proofs.StepLemmas.{chosen}
use Rattle.nfa_choice.specs.ChoiceState.{ChoiceState, kind_in}
use Rattle.nfa_choice.specs.Iterations.{CapturesNextBy}
use Rattle.nfa_choice.proofs.CapturesLemmas.{captures-are-given, captures-stay-kept}
use Rattle.nfa_meta.specs.CapturesSteps.{BeginsCaptures, captures_call}
use Rattle.nfa_meta.specs.Filled.{AreAllCaught}
use Rattle.nfa_meta.specs.RegexState.{KeepsRegex, RegexState}
use Rattle.nfa_meta.specs.Rewritten.{end_after}
use Rattle.nfa_meta.specs.WindowRuns.{by_window}
use Rattle.nfa_meta.proofs.RegexLemmas.{regex_keeps}

-- the captures of an input that is the whole text are those of the text
pub all-caught : (r : ChoiceState) (text : List ℕ) (x : Search) → x ≡ whole text → (cs : List Captured)
    → AreRows r.nfa (kind_in r) x.earliest x (map row_of cs) → All (HasGroups r.nfa) cs → AreAllCaught r text cs
all-caught r text x is cs rows groups = record {
  rows = subst (λ (y : Search). AreRows r.nfa (kind_in r) y.earliest y (map row_of cs)) is rows;
  groups = groups;
}

take-apart : (x : Search) (n : ℕ) (last : Option ℕ) (ms : List Found) → AreDisjoint x last ms
    → AreDisjoint x last (take n ms)
take-apart x zero last ms h = tt
take-apart x (suc n) last [] h = tt
take-apart x (suc n) last (m ∷ ms) h = (h.0, h.1, take-apart x n (Some m.end) ms h.2)

-- the first of matches that do not overlap do not overlap
pub first-apart : (x : Search) (n : ℕ) (cs : List Captured) → AreDisjoint x None (map match_in cs)
    → AreDisjoint x None (map match_in (take n cs))
first-apart x n cs h =
    subst (λ (ms : List Found). AreDisjoint x None ms) (take-map match_in n cs)
    (take-apart x n None (map match_in cs) h)

-- the next of matches that do not overlap starts where the ones before end, or after that
next-after : (x : Search) (from : ℕ) (cs : List Captured) (c : Captured)
    → AreDisjoint x (Some from) (map match_in (cs ++ c ∷ [])) → end_after from cs ≤ (match_in c).start
next-after x from [] c h = (h.1 from refl).0
next-after x from (d ∷ cs) c h = next-after x (match_in d).end cs c h.2

first-after : (x : Search) (cs : List Captured) (c : Captured) → AreDisjoint x None (map match_in (cs ++ c ∷ []))
    → end_after 0 cs ≤ (match_in c).start
first-after x [] c h = omega arith
first-after x (d ∷ cs) c h = next-after x (match_in d).end cs c h.2

-- captures that hold a row
abbrev caught_of : Automaton → Row → Captured
caught_of nfa row = record { groups = nfa.groups; pattern = row.pattern; slots = row.slots }

-- rows after captures, as captures
rows-after : (nfa : Automaton) (cs : List Captured) (more : List Row)
    → map row_of (cs ++ map (caught_of nfa) more) ≡ map row_of cs ++ more
rows-after nfa [] [] = refl
rows-after nfa [] (m ∷ more) = ap (λ (rows : List Row). m ∷ rows) (rows-after nfa [] more)
rows-after nfa (c ∷ cs) more = ap (λ (rows : List Row). row_of c ∷ rows) (rows-after nfa cs more)

-- the rows that follow some have the groups of the NFA
more-groups : (nfa : Automaton) (kind : MatchKind) (rows more : List Row) (w : IterState)
    → ItemsLast row_span (AnswersRow nfa kind false) (Fails row_span (AnswersRow nfa kind false)) w
    (as_items (rows ++ more))
    → All (λ row. HasGroups nfa (caught_of nfa row)) more
more-groups nfa kind [] [] w h = All-nil (λ row. HasGroups nfa (caught_of nfa row))
more-groups nfa kind [] (m ∷ more) w h =
    let asked = step-asked row_span (AnswersRow nfa kind false) w (Ok (Some m)) h.0 in
    All-cons (λ row. HasGroups nfa (caught_of nfa row)) m more (record { groups = refl; count = asked.3.count })
    (more-groups nfa kind [] more (after w (Some (row_span m))) h.1)
more-groups nfa kind (r ∷ rows) more w h = more-groups nfa kind rows more (after w (Some (row_span r))) h.1

-- the captures of the text begin with captures whose rows are its first ones
pub first-caught : (r : ChoiceState) (text : List ℕ) (cs : List Captured)
    → AreFirstRows r.nfa (kind_in r) false (whole text) (map row_of cs) → All (HasGroups r.nfa) cs
    → (all : List Captured) × AreAllCaught r text all × (take (length cs) all ≡ cs)
first-caught r text cs first groups =
    let tells = AnswersRow r.nfa (kind_in r) false in
    let rows = rows-exist r.nfa (kind_in r) false (whole text) in
    let rest = values-rest row_span tells (one-row r.nfa (kind_in r) false) (fresh (whole text)) (map row_of cs) rows.0
    first.come rows.1.come in
    let is = rest.1 ∙ sym (rows-after r.nfa cs rest.0) in
    let come = subst (λ (these : List Row). ItemsLast row_span tells (Fails row_span tells) (fresh (whole text))
    (as_items these)) rest.1 rows.1.come in
    let more = map (caught_of r.nfa) rest.0 in (
      cs ++ more,
      record {
        rows = subst (λ (these : List Row). AreRows r.nfa (kind_in r) false (whole text) these) is rows.1;
        groups = All-append (HasGroups r.nfa) cs more groups (All-map (HasGroups r.nfa) (caught_of r.nfa) rest.0
            (more-groups r.nfa (kind_in r) (map row_of cs) rest.0 (fresh (whole text)) come));
      },
      take_at cs more (length cs) refl,
    )

-- steps with the regex that they borrow, as an iterator that owns both
module _ (b : MutBor RegexState) where
  abbrev Stepping : Type 0
  Stepping = Steps (WithCache (WithCaptures (Unit {0})) RegexState)

  abbrev inner : Stepping → StepsWith (WithCaptures (Unit {0})) RegexState
  inner s = record {
    steps = record { searcher = s.searcher; backend = s.backend.backend; done = s.done };
    cache = record b { now = s.backend.cache };
  }

  abbrev Next : Stepping → Option (Result Captured SearchError) → Stepping → Type 0
  Next = CapturesNextBy by_window inner

  -- its calls are those of the steps
  called : (s : Stepping) (r : Option (Result Captured SearchError)) (t : Stepping) → captures_call s r t → Next s r t
  called s r t call = record { takes = record { step = call; cache = refl } }

  all-called : (xs : List (Result Captured SearchError)) (s t : Stepping) → Yields captures_call s xs t
      → Yields Next s xs t
  all-called [] s t ran = ran
  all-called (x ∷ xs) s t ran = (ran.0, called s (Some x) ran.0 ran.1, all-called xs ran.0 t ran.2)

  -- a call keeps the regex
  pub step-keeps : (s : Stepping) (r : Option (Result Captured SearchError)) (t : Stepping) → captures_call s r t
      → KeepsRegex s.backend.cache t.backend.cache
  step-keeps s r t call = (captures-stay-kept regex_keeps inner s [] s r t refl (called s r t call)).keeps

  -- Steps over the captures of the text, by searches of r.
  module _ (r : RegexState) (text : List ℕ) (steps : Steps (WithCaptures (Unit {0})))
      (begins : BeginsCaptures r text steps) where
    given : CapturesGiven Next r.choice.nfa (kind_in r.choice) false (AnswersRow r.choice.nfa (kind_in r.choice) false)
        (whole text) (with_cache steps r)
    given = captures-are-given regex_keeps inner (whole text) (with_cache steps r) begins.iter_state begins.going
        begins.groups

    -- the next captures are in the text, after the others
    pub steps-turn : (cs : List Captured) (last : Stepping) (c : Captured) (t : Stepping)
        → Yields captures_call (with_cache steps r) (map Ok cs) last → captures_call last (Some (Ok c)) t
        → CapturesInside (whole text) c × (end_after 0 cs ≤ (match_in c).start)
    steps-turn cs last c t ran call =
        let turn = given-turn given cs last c t (all-called (map Ok cs) (with_cache steps r) last ran)
        (called last (Some (Ok c)) t call) in
        (turn.0, first-after (whole text) cs c turn.1)

    -- their rows are the first of the text
    pub steps-first : (cs : List Captured) (last : Stepping)
        → Yields captures_call (with_cache steps r) (map Ok cs) last
        → AreFirstRows r.choice.nfa (kind_in r.choice) false (whole text) (map row_of cs)
    steps-first cs last ran =
        given.first_rows (map Ok cs) last cs (all-called (map Ok cs) (with_cache steps r) last ran) refl

    -- at the end they were those of all matches
    pub steps-over : (cs : List Captured) (last t : Stepping)
        → Yields captures_call (with_cache steps r) (map Ok cs) last → captures_call last None t
        → AreAllCaught r.choice text cs × All (CapturesInside (whole text)) cs
    steps-over cs last t ran over =
        let all = given-drained given cs last t (all-called (map Ok cs) (with_cache steps r) last ran)
        (called last None t over) in
        (all-caught r.choice text (whole text) refl cs all.0 all.2, all.3)

-- what a step gives, by whether the iterator has ended
pub lent-some : (done : Bool) (c : Captured) (Call : Option (Result Captured SearchError) → Type 0)
    → Call (held_unless done c) → not done ≡ true → Call (Some (Ok c))
lent-some false c Call call is = call
lent-some true c Call call is = cc

pub lent-none : (done : Bool) (c : Captured) (Call : Option (Result Captured SearchError) → Type 0)
    → Call (held_unless done c) → not done ≡ false → Call None
lent-none true c Call call is = call
lent-none false c Call call is = cc

-- after a call that gives captures fewer are left
pub call-fewer : (s t : Steps (WithCache (WithCaptures (Unit {0})) RegexState)) (c : Captured)
    → captures_call s (Some (Ok c)) t
    → items_left t.done (steps_iter_state t) < items_left s.done (steps_iter_state s)
call-fewer s t c call = elim (chosen s.done call) [
  | inl p ↦ let never : (let item : Option (Result Captured SearchError) = Some (Ok c) in item ≡ None) = p.1.0 in cc
  | inr p ↦ rw p.0 p.1.fewer
]

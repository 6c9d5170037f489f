-- The spans that the iterators around the matches of a text give.
use Rattle.nfa_paths.proofs.Common.{◌≡◌, ◌≤◌, ◌∙◌, ◌⊎◌, ◌++◌, ◌∷◌, [], ℕ, zero, suc, List, None, Some, Option, none-some, true, false, ap, append-nil, arith, inl, inr, length, map, refl, subst, sym, take, take_all, true≢false, All, All-cons, All-head, All-nil, All-tail, Automaton, Found, found_of, Match, MatchKind, Search, Span, whole}
use Rattle.std.proofs.iter.runs.Made.{run_of_exit, runs_from_along}
use Rattle.nfa_search_base.specs.Common.{Answer, AnswersMatch, AreAll, AreDisjoint, AreFirst, AreMatches, Fails, ItemsLast, ItemsNext, IterState, ItemsGiven, KeepsStepsWith, RunsGive, Yields, after, fresh, span_of}
use Rattle.nfa_search_base.proofs.ListLemmas.{as_items, matches-disjoint, matches-exist, matches-rest}
use Rattle.nfa_search_base.proofs.RunLemmas.{calls-keep, given}
use Rattle.nfa_search_base.proofs.StepLemmas.{chosen}
use Rattle.nfa_choice.specs.ChoiceState.{ChoiceState, kind_in}
use Rattle.nfa_meta.specs.Gaps.{AreAllOf, AreFirstOf, IsSpanIn, IsSplit, gap_spans}
use Rattle.nfa_meta.specs.Matches.{finds_next, finds_steps}
use Rattle.nfa_meta.specs.RegexState.{KeepsRegex}
use Rattle.nfa_meta.specs.Splits.{BeginsOne, BeginsSplit, IsSplitWithin, SplitGives, SplitGivesIn, SplitGivesKept, SplitNGives, SplitNGivesKept, SplitStep, ends_split, split_next, splitn_next}
use Rattle.nfa_meta.specs.declared.regex.find_iter.FindMatches.{FindMatches}
use Rattle.nfa_meta.specs.declared.regex.split_iter.Split.{Split}
use Rattle.nfa_meta.specs.declared.regex.split_iter.SplitN.{SplitN}
use Rattle.nfa_choice.proofs.FindLemmas.{finds-kept}
use Rattle.nfa_meta.proofs.MatchesLemmas.{regex_finder}
use Rattle.nfa_meta.proofs.RegexLemmas.{regex_self, regex_then}

-- the matches that an iterator over those of x gave until `None` are all
found-all : {nfa : Automaton} {kind : MatchKind} {x : Search} {T : Type 0} (steps : T → Option Match → T → Type 0)
    (s : T) (ms : List Match) (t : T) → Yields steps s ms t
    → RunsGive steps (AreFirst nfa kind x) (AreAll nfa kind x) s → (u : T) → steps t None u
    → AreMatches nfa kind x.earliest x (map found_of ms)
found-all {nfa} {kind} {x} steps s ms t ran runs u over =
    let run = run_of_exit steps s ms t ran u over in
    subst (λ (found : List Match). AreMatches nfa kind x.earliest x (map found_of found)) run.3.0
    ((runs run.0 run.0.seen run.1).1 run.2)

-- Calls passed these matches, and have not ended: the spans so far, and those around more matches, are those around
-- all.
pub record Passed (s : Split) (xs : List Span) (t : Split) : Type 0 where
  pub matches : List Match
  pub ran : Yields finds_next s.matches matches t.matches
  pub spans : (more : List Found) → xs ++ gap_spans t.start t.end more
      ≡ gap_spans s.start s.end (map found_of matches ++ more)
  pub count : length matches ≡ length xs
  pub going : t.done ≡ false

-- Calls passed these matches, found no more, and ended.
pub record Ended (s : Split) (xs : List Span) (t : Split) : Type 0 where
  pub matches : List Match
  pub last : FindMatches
  pub ran : Yields finds_next s.matches matches last
  pub left : FindMatches
  pub over : finds_next last None left
  pub spans : xs ≡ gap_spans s.start s.end (map found_of matches)
  pub ended : t.done ≡ true

-- a call after the end gives no span
none-after : (x : Span) (s t : Split) → s.done ≡ true → split_next s (Some x) t → ⊥
none-after x s t over step = elim (chosen s.done step) [
  | inl p ↦ none-some x (sym p.1.0)
  | inr p ↦ true≢false (sym over ∙ p.0)
]

-- after the end there are no spans
ended-stays : (xs : List Span) (s t : Split) → s.done ≡ true → Yields split_next s xs t → (xs ≡ []) × (t ≡ s)
ended-stays [] s t over ran = (refl, sym ran)
ended-stays (x ∷ xs) s t over ran = absurd (none-after x s ran.0 over ran.1)

module _ (s q : Split) (x : Span) (xs : List Span) where
  passed-one : (m : Match) → finds_next s.matches (Some m) q.matches → SplitGives s (Some m) (Some x) q
      → (t : Split) → Passed q xs t → Passed s (x ∷ xs) t
  passed-one m step gives t p = record {
    matches = m ∷ p.matches;
    ran = (q.matches, step, p.ran);
    spans = λ more. let more_is = p.spans more in let is = gives.0 in let from = gives.1 in let to = gives.2 in cc;
    count = ap suc p.count;
    going = p.going;
  }

  ended-one : (m : Match) → finds_next s.matches (Some m) q.matches → SplitGives s (Some m) (Some x) q
      → (t : Split) → Ended q xs t → Ended s (x ∷ xs) t
  ended-one m step gives t e = record {
    matches = m ∷ e.matches;
    last = e.last;
    ran = (q.matches, step, e.ran);
    left = e.left;
    over = e.over;
    spans = let is = gives.0 in let from = gives.1 in let to = gives.2 in let spans = e.spans in cc;
    ended = e.ended;
  }

  ended-now : finds_next s.matches None q.matches → SplitGives s None (Some x) q
      → (t : Split) → (xs ≡ []) × (t ≡ q) → Ended s (x ∷ xs) t
  ended-now step gives t stays = record {
    matches = [];
    last = s.matches;
    ran = refl;
    left = q.matches;
    over = step;
    spans = let is = gives.0 in let none = stays.0 in cc;
    ended = rw stays.1 gives.1;
  }

going-step : (s : Split) (r : Option Span) (t : Split) → s.done ≡ false → split_next s r t → SplitStep s r t
going-step s r t going step = elim (chosen s.done step) [
  | inl p ↦ absurd (true≢false (sym p.0 ∙ going))
  | inr p ↦ p.1
]

-- calls from a state that has not ended passed matches, or ended
pub passed-or-ended : (xs : List Span) (s t : Split) → s.done ≡ false → Yields split_next s xs t
    → Passed s xs t ⊎ Ended s xs t
passed-or-ended [] s t going ran = inl (rw (← ran) (record {
  matches = [];
  ran = refl;
  spans = λ more. refl;
  count = refl;
  going = going;
}))
passed-or-ended (x ∷ xs) s t going ran =
    let step = going-step s (Some x) ran.0 going ran.1 in
    by (λ on. passed-or-ended xs ran.0 t on ran.2) step.found step.step step.gives
  where
    by : (ran.0.done ≡ false → Passed ran.0 xs t ⊎ Ended ran.0 xs t) → (found : Option Match)
        → finds_next s.matches found ran.0.matches → SplitGives s found (Some x) ran.0
        → Passed s (x ∷ xs) t ⊎ Ended s (x ∷ xs) t
    by later None step gives =
        inr (ended-now s ran.0 x xs step gives t (ended-stays xs ran.0 t gives.1 ran.2))
    by later (Some m) step gives = elim (later gives.3) [
      | inl p ↦ inl (passed-one s ran.0 x xs m step gives t p)
      | inr e ↦ inr (ended-one s ran.0 x xs m step gives t e)
    ]

-- a call that gives none has ended
pub none-ended : (t u : Split) → split_next t None u → t.done ≡ true
none-ended t u step = elim (chosen t.done step) [
  | inl p ↦ p.0
  | inr p ↦ absurd (by p.1.found p.1.gives)
]
  where
    by : (found : Option Match) → SplitGives t found None u → ⊥
    by None gives = let never : None ≡ Some _ = gives.0 in cc
    by (Some m) gives = let never : None ≡ Some _ = gives.0 in cc

module _ {r : ChoiceState} {text : List ℕ} {s : Split} (begins : BeginsSplit r text s) where
  pub ended-split : {xs : List Span} {t : Split} → Ended s xs t → IsSplit r text xs
  ended-split e = record {
    matches = map found_of e.matches;
    all = found-all finds_next s.matches e.matches e.last e.ran begins.given.runs e.left e.over;
    spans_are = e.spans ∙ rw (begins.start, begins.end) refl;
  }

  passed-split : {xs : List Span} {t : Split} → Passed s xs t → BeginsOne (IsSplit r text) xs
  passed-split {xs} {t} p =
      let all = matches-exist r.nfa (kind_in r) false (whole text) in
      let rest = matches-rest r.nfa (kind_in r) false (whole text) (map found_of p.matches) all.0
      (begins.given.first p.matches t.matches p.ran) all.1 in
      record {
        all = gap_spans 0 (length text) all.0;
        is = record { matches = all.0; all = all.1; spans_are = refl };
        more = gap_spans t.start t.end rest.0;
        all_is = ap (gap_spans 0 (length text)) rest.1
            ∙ sym (p.spans rest.0 ∙ rw (begins.start, begins.end) refl);
      }

  whole-first : {xs : List Span} → IsSplit r text xs → BeginsOne (IsSplit r text) xs
  whole-first {xs} is = record { all = xs; is = is; more = []; all_is = sym (append-nil xs) }

  -- so its calls give the spans around the matches
  pub split-given : ItemsGiven split_next (BeginsOne (IsSplit r text)) (IsSplit r text) s
  split-given = given split_next (BeginsOne (IsSplit r text)) (IsSplit r text) s first all
    where
      first : (xs : List Span) (t : Split) → Yields split_next s xs t → BeginsOne (IsSplit r text) xs
      first xs t ran = elim (passed-or-ended xs s t begins.going ran) [
        | inl p ↦ passed-split p
        | inr e ↦ whole-first (ended-split e)
      ]

      all : (xs : List Span) (t u : Split) → Yields split_next s xs t → split_next t None u → IsSplit r text xs
      all xs t u ran step = elim (passed-or-ended xs s t begins.going ran) [
        | inl p ↦ let over = none-ended t u step in let going = p.going in cc
        | inr e ↦ ended-split e
      ]

-- ---- the spans are those of the text

module _ (text : List ℕ) where
  abbrev pub Lies : Span → Type 0
  Lies = IsSpanIn (length text)

  gaps-after : (from : ℕ) (ms : List Found) → from ≤ length text → AreDisjoint (whole text) (Some from) ms
      → All Lies (gap_spans from (length text) ms)
  gaps-after from [] within apart =
      All-cons Lies (record { start = from; end = length text }) []
      (record { ordered = within; within = omega arith }) (All-nil Lies)
  gaps-after from (m ∷ ms) within apart =
      let inside = apart.0 in
      let ordered = inside.ordered in
      let to = inside.to in
      All-cons Lies (record { start = from; end = m.start }) (gap_spans m.end (length text) ms)
      (record { ordered = (apart.1 from refl).0; within = omega (arith, ordered, to) }) (gaps-after m.end ms to apart.2)

  gaps-inside : (ms : List Found) → AreDisjoint (whole text) None ms → All Lies (gap_spans 0 (length text) ms)
  gaps-inside [] apart =
      All-cons Lies (record { start = 0; end = length text }) []
      (record { ordered = omega arith; within = omega arith }) (All-nil Lies)
  gaps-inside (m ∷ ms) apart =
      let inside = apart.0 in
      let ordered = inside.ordered in
      let to = inside.to in
      All-cons Lies (record { start = 0; end = m.start }) (gap_spans m.end (length text) ms)
      (record { ordered = omega arith; within = omega (arith, ordered, to) }) (gaps-after m.end ms to apart.2)

  all-front : (xs more : List Span) → All Lies (xs ++ more) → All Lies xs
  all-front [] more h = All-nil Lies
  all-front (x ∷ xs) more h =
      All-cons Lies x xs (All-head Lies x (xs ++ more) h) (all-front xs more (All-tail Lies x (xs ++ more) h))

  -- first spans of a list of such spans are such spans
  pub begins-inside : {Is : List Span → Type 0} → ((all : List Span) → Is all → All Lies all) → {xs : List Span}
      → BeginsOne Is xs → All Lies xs
  begins-inside each {xs} b = all-front xs b.more (subst (λ (l : List Span). All Lies l) b.all_is (each b.all b.is))

  module _ (r : ChoiceState) where
    abbrev tells : Search → Answer Found → Type 0
    tells = AnswersMatch r.nfa (kind_in r) false

    -- the first of all matches are first matches
    next-take : (n : ℕ) (w : IterState) (ms : List Found) → ItemsLast span_of tells (Fails span_of tells) w
        (as_items ms)
        → ItemsNext span_of tells (Fails span_of tells) w (as_items (take n ms))
    next-take zero w ms h = tt
    next-take (suc n) w [] h = tt
    next-take (suc n) w (m ∷ ms) h = (h.0, next-take n (after w (Some (span_of m))) ms h.1)

    pub take-first : (n : ℕ) (ms : List Found) → AreAllOf r text ms → AreFirstOf r text (take n ms)
    take-first n ms all = record { come = next-take n (fresh (whole text)) ms all.come }

    pub all-first : (ms : List Found) → AreAllOf r text ms → AreFirstOf r text ms
    all-first ms all = subst (AreFirstOf r text) (take_all (length ms) ms (omega arith)) (take-first (length ms) ms all)

    split-lies : (all : List Span) → IsSplit r text all → All Lies all
    split-lies all is =
        let apart = matches-disjoint r.nfa (kind_in r) false (whole text) is.matches (all-first is.matches is.all) in
        subst (λ (l : List Span). All Lies l) (sym is.spans_are) (gaps-inside is.matches apart)

    pub within-lies : (limit : ℕ) (all : List Span) → IsSplitWithin r text limit all → All Lies all
    within-lies zero all is = rw is (All-nil Lies)
    within-lies (suc n) all is =
        let apart = matches-disjoint r.nfa (kind_in r) false (whole text) is.matches is.first in
        subst (λ (l : List Span). All Lies l) (sym is.spans_are) (gaps-inside is.matches apart)

    pub split-inside : (s : Split) → BeginsSplit r text s → SplitGivesIn text s
    split-inside s begins = runs_from_along split_next s (All Lies)
        (λ xs t ran. begins-inside split-lies ((split-given begins).first xs t ran))

-- ---- the engine is kept

abbrev Keeps : Split → Split → Type 0
Keeps s t = KeepsStepsWith KeepsRegex (finds_steps s.matches) (finds_steps t.matches)

keeps-self : (s : Split) → Keeps s s
keeps-self s = record { cache = refl; keeps = regex_self s.matches.regex.now }

keeps-then : (s t u : Split) → Keeps s t → Keeps t u → Keeps s u
keeps-then s t u f g = record {
  cache = g.cache ∙ f.cache;
  keeps = regex_then s.matches.regex.now t.matches.regex.now u.matches.regex.now f.keeps g.keeps;
}

split-keeps : (s : Split) (r : Option Span) (t : Split) → split_next s r t → Keeps s t
split-keeps s r t step = elim (chosen s.done step) [
  | inl p ↦ rw p.1.1 (keeps-self s)
  | inr p ↦ finds-kept regex_finder finds_steps s.matches [] s.matches p.1.found t.matches refl p.1.step
]

pub split-kept : (s : Split) → SplitGivesKept s
split-kept s = calls-keep split_next Keeps keeps-self keeps-then split-keeps s

ends-keeps : (s : Split) (r : Option Span) (t : Split) → ends_split s r t → Keeps s t
ends-keeps s r t step = elim (chosen s.done step) [
  | inl p ↦ rw p.1.1 (keeps-self s)
  | inr p ↦
      let same = p.1.2 in
      subst (λ (m : FindMatches). KeepsStepsWith KeepsRegex (finds_steps s.matches) (finds_steps m)) (sym same)
      (keeps-self s)
]

splitn-step : (n : ℕ) (s : SplitN) (r : Option Span) (t : SplitN) → SplitNGives n s r t → Keeps s.spans t.spans
splitn-step zero s r t step = rw step.1 (keeps-self s.spans)
splitn-step (suc zero) s r t step = ends-keeps s.spans r t.spans step.0
splitn-step (suc (suc n)) s r t step = split-keeps s.spans r t.spans step.0

pub splitn-kept : (s : SplitN) → SplitNGivesKept s
splitn-kept s = calls-keep splitn_next (λ p q. Keeps p.spans q.spans) (λ p. keeps-self p.spans)
    (λ p q u. keeps-then p.spans q.spans u.spans) (λ p r q. splitn-step p.left p r q) s

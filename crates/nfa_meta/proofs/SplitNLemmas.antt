-- The spans that the iterator with a limit gives.
use Rattle.nfa_paths.proofs.Common.{◌≡◌, ◌≤◌, ◌<◌, ◌+◌, ◌-◌, ◌∙◌, ◌⊎◌, ◌++◌, ◌∷◌, [], ℕ, zero, suc, List, None, Some, true, false, ap, append-nil, arith, cases_lt, inl, inr, length, length-map, length-take-le, map, refl, sym, take, take_all, All, Found, found_of, Span, whole}
use Rattle.std.proofs.iter.runs.Made.{runs_from_along}
use Rattle.nfa_search_base.specs.Common.{ItemsGiven, Yields}
use Rattle.nfa_search_base.proofs.ListLemmas.{matches-exist, matches-rest}
use Rattle.nfa_search_base.proofs.RunLemmas.{given}
use Rattle.nfa_search_base.proofs.StepLemmas.{chosen}
use Rattle.nfa_choice.specs.ChoiceState.{ChoiceState, kind_in}
use Rattle.nfa_meta.specs.Gaps.{IsSplitUpTo, gap_spans}
use Rattle.nfa_meta.specs.Splits.{BeginsOne, BeginsSplit, IsSplitWithin, SplitNGives, SplitNGivesIn, ends_split, rest_of, split_next, splitn_next}
use Rattle.nfa_meta.specs.declared.regex.split_iter.Split.{Split}
use Rattle.nfa_meta.specs.declared.regex.split_iter.SplitN.{SplitN}
use Rattle.nfa_meta.proofs.SplitLemmas.{Ended, Lies, Passed, all-first, begins-inside, ended-split, none-ended, passed-or-ended, take-first, within-lies}

-- calls gave spans of the iterator inside, and may give more
record Goes (n : ℕ) (s : SplitN) (xs : List Span) (t : SplitN) : Type 0 where
  pub left : length xs + t.left ≡ n
  pub some : 0 < t.left
  pub ran : Yields split_next s.spans xs t.spans

-- calls gave spans of the iterator inside, and then what was left of the text
record GaveRest (n : ℕ) (s : SplitN) (xs : List Span) : Type 0 where
  pub spans : List Span
  pub last : Split
  pub ran : Yields split_next s.spans spans last
  pub going : last.done ≡ false
  pub count : length spans + 1 ≡ n
  pub all : xs ≡ spans ++ rest_of last ∷ []

-- no span may come
none-comes : (xs : List Span) (s t : SplitN) → s.left ≡ 0 → Yields splitn_next s xs t → xs ≡ []
none-comes [] s t none ran = refl
none-comes (x ∷ xs) s t none ran = let step = rw none at ran.1 in let never : Some x ≡ None = step.0 in cc

rest-is : (s : Split) (x : Span) (t : Split) → ends_split s (Some x) t → (s.done ≡ false) × (x ≡ rest_of s)
rest-is s x t step = elim (chosen s.done step) [
  | inl p ↦ let never : Some x ≡ None = p.1.0 in cc
  | inr p ↦ (p.0, let is = p.1.0 in cc)
]

rest-ended : (s t : Split) → ends_split s None t → s.done ≡ true
rest-ended s t step = elim (chosen s.done step) [
  | inl p ↦ p.0
  | inr p ↦ let never : None ≡ Some (rest_of s) = p.1.0 in cc
]

goes-or-rest : (n : ℕ) (xs : List Span) (s t : SplitN) → s.left ≡ suc n → Yields splitn_next s xs t
    → Goes (suc n) s xs t ⊎ GaveRest (suc n) s xs
goes-or-rest n [] s t left ran = inl (rw (← ran) (record {
  left = omega (arith, left);
  some = omega (arith, left);
  ran = refl;
}))
goes-or-rest zero (x ∷ xs) s t left ran =
    let step = rw left at ran.1 in
    let is = rest-is s.spans x ran.0.spans step.0 in
    let none = none-comes xs ran.0 t step.1 ran.2 in
    inr (record {
      spans = [];
      last = s.spans;
      ran = refl;
      going = is.0;
      count = refl;
      all = rw (is.1, none) refl;
    })
goes-or-rest (suc n) (x ∷ xs) s t left ran =
    let step = rw left at ran.1 in
    elim (goes-or-rest n xs ran.0 t step.1 ran.2) [
      | inl g ↦ inl (record {
        left = let left_is = g.left in omega (arith, left_is);
        some = g.some;
        ran = (ran.0.spans, step.0, g.ran);
      })
      | inr g ↦ inr (record {
        spans = x ∷ g.spans;
        last = g.last;
        ran = (ran.0.spans, step.0, g.ran);
        going = g.going;
        count = let count_is = g.count in omega (arith, count_is);
        all = ap (λ (l : List Span). x ∷ l) g.all;
      })
    ]

-- the first of more matches, after these
take-more : (n : ℕ) (xs ys : List Found) → length xs ≤ n → take n (xs ++ ys) ≡ xs ++ take (n - length xs) ys
take-more n [] ys few =
    let same : n ≡ n - 0 = omega arith in ap (λ (k : ℕ). take k ys) same
take-more zero (x ∷ xs) ys few = absurd (omega arith)
take-more (suc n) (x ∷ xs) ys few =
    let same : n - length xs ≡ suc n - length (x ∷ xs) = omega arith in
    ap (λ (l : List Found). x ∷ l)
    (take-more n xs ys (omega (arith, few)) ∙ ap (λ (k : ℕ). xs ++ take k ys) same)

-- all spans of a list are its first ones
whole-first : {Is : List Span → Type 0} {xs : List Span} → Is xs → BeginsOne Is xs
whole-first {xs = xs} is = record { all = xs; is = is; more = []; all_is = sym (append-nil xs) }

-- all spans, if they are few
ended-whole : {r : ChoiceState} {text : List ℕ} {s t : Split} → BeginsSplit r text s → (n : ℕ) {xs : List Span}
    → Ended s xs t → IsSplitUpTo r text (suc n) xs
ended-whole {r} {text} begins n e =
    let all = ended-split begins e in
    record {
      matches = all.matches;
      first = all-first text r all.matches all.all;
      as_many = inr all.all;
      spans_are = all.spans_are;
    }

module _ {r : ChoiceState} {text : List ℕ} {s : SplitN} (begins : BeginsSplit r text s.spans) (n : ℕ) where
  -- spans and what is left
  passed-rest : {xs : List Span} (g : GaveRest (suc n) s xs) → Passed s.spans g.spans g.last
      → IsSplitUpTo r text (suc n) xs
  passed-rest g p =
      let count = p.count in
      let as_many = g.count in
      record {
        matches = map found_of p.matches;
        first = begins.given.first p.matches g.last.matches p.ran;
        as_many = inl (omega (arith, length-map p.matches found_of, count, as_many));
        spans_are = g.all ∙ p.spans []
            ∙ rw (begins.start, begins.end) (ap (gap_spans 0 (length text)) (append-nil (map found_of p.matches)));
      }

  rest-whole : {xs : List Span} → GaveRest (suc n) s xs → IsSplitUpTo r text (suc n) xs
  rest-whole g = elim (passed-or-ended g.spans s.spans g.last begins.going g.ran) [
    | inl p ↦ passed-rest g p
    | inr e ↦ let going = g.going in let ended = e.ended in cc
  ]

  -- the first spans of such a list
  passed-whole : {xs : List Span} {t : SplitN} → Goes (suc n) s xs t → Passed s.spans xs t.spans
      → BeginsOne (IsSplitUpTo r text (suc n)) xs
  passed-whole {t = t} g p =
      let ms = map found_of p.matches in
      let all = matches-exist r.nfa (kind_in r) false (whole text) in
      let rest = matches-rest r.nfa (kind_in r) false (whole text) ms all.0
      (begins.given.first p.matches t.spans.matches p.ran) all.1 in
      let count = p.count in
      let left = g.left in
      let some = g.some in
      let few : length ms ≤ n = omega (arith, length-map p.matches found_of, count, left, some) in
      let later = take (n - length ms) rest.0 in
      record {
        all = gap_spans 0 (length text) (take n all.0);
        is = record {
          matches = take n all.0;
          first = take-first text r n all.0 all.1;
          as_many = elim (cases_lt n (length all.0)) [
            | inl more ↦ inl (omega (arith, length-take-le n all.0 (omega (arith, more))))
            | inr few ↦ inr (rw (take_all n all.0 few) all.1)
          ];
          spans_are = refl;
        };
        more = gap_spans t.spans.start t.spans.end later;
        all_is = ap (λ (found : List Found). gap_spans 0 (length text) (take n found)) rest.1
            ∙ ap (gap_spans 0 (length text)) (take-more n ms rest.0 few)
            ∙ sym (p.spans later ∙ rw (begins.start, begins.end) refl);
      }

-- a call that gives none, though some may come, has ended
none-over : (m : ℕ) (t u : SplitN) → 0 < m → SplitNGives m t None u → t.spans.done ≡ true
none-over zero t u some step = absurd (omega (arith, some))
none-over (suc zero) t u some step = rest-ended t.spans u.spans step.0
none-over (suc (suc m)) t u some step = none-ended t.spans u.spans step.0

module _ {r : ChoiceState} {text : List ℕ} {s : SplitN} (begins : BeginsSplit r text s.spans) where
  none-given : s.left ≡ 0
      → ItemsGiven splitn_next (BeginsOne (IsSplitWithin r text 0)) (IsSplitWithin r text 0) s
  none-given left = given splitn_next (BeginsOne (IsSplitWithin r text 0)) (IsSplitWithin r text 0) s
      (λ xs t ran. record { all = []; is = refl; more = []; all_is = rw (none-comes xs s t left ran) refl })
      (λ xs t u ran step. none-comes xs s t left ran)

  some-given : (n : ℕ) → s.left ≡ suc n
      → ItemsGiven splitn_next (BeginsOne (IsSplitUpTo r text (suc n))) (IsSplitUpTo r text (suc n)) s
  some-given n left =
      given splitn_next (BeginsOne (IsSplitUpTo r text (suc n))) (IsSplitUpTo r text (suc n)) s first all
    where
      first : (xs : List Span) (t : SplitN) → Yields splitn_next s xs t → BeginsOne (IsSplitUpTo r text (suc n)) xs
      first xs t ran = elim (goes-or-rest n xs s t left ran) [
        | inl g ↦ elim (passed-or-ended xs s.spans t.spans begins.going g.ran) [
          | inl p ↦ passed-whole begins n g p
          | inr e ↦ whole-first (ended-whole begins n e)
        ]
        | inr g ↦ whole-first (rest-whole begins n g)
      ]

      all : (xs : List Span) (t u : SplitN) → Yields splitn_next s xs t → splitn_next t None u
          → IsSplitUpTo r text (suc n) xs
      all xs t u ran step = elim (goes-or-rest n xs s t left ran) [
        | inl g ↦ elim (passed-or-ended xs s.spans t.spans begins.going g.ran) [
          | inl p ↦ let over = none-over t.left t u g.some step in let going = p.going in cc
          | inr e ↦ ended-whole begins n e
        ]
        | inr g ↦ rest-whole begins n g
      ]

  -- its calls give the first spans around the matches
  pub splitn-given : (limit : ℕ) → s.left ≡ limit
      → ItemsGiven splitn_next (BeginsOne (IsSplitWithin r text limit)) (IsSplitWithin r text limit) s
  splitn-given zero left = none-given left
  splitn-given (suc n) left = some-given n left

  pub splitn-inside : SplitNGivesIn text s
  splitn-inside = runs_from_along splitn_next s (All (Lies text))
      (λ xs t ran. begins-inside text (within-lies text r s.left) ((splitn-given s.left refl).first xs t ran))

-- The texts that have a byte of each level in turn: where a byte of one level more is, a longer text is.
use Rattle.std.proofs.lemmas.List.Edits.{get_or-between, length-between}
use Rattle.nfa_paths.proofs.Common.{◌≡◌, ◌∙◌, ◌++◌, ◌∷◌, [], ℕ, ◌+◌, ◌<◌, ◌≤◌, ◌⊎◌, Automaton, Bool, IfOk, IfSome, List, Option, Result, Ok, Err, Some, ap, arith, cases_lt, false, get_or, get_or_append_left, get_or_from_slice_get, get_or_past, get_or_push, inl, inr, length, length_push, refl, slice_get, slice_get-get_or, slice_range, subst, sym}
use Rattle.regex_literal.specs.ByteSets.{IsInSet}
use Rattle.regex_literal.specs.Find.{AnyOccursAt, OccursAt}
use Rattle.nfa_facts.specs.Levels.{AdmitsAt, AdmitsMatches}
use Rattle.nfa_facts.specs.Needles.{BeginsWithOne}
use Rattle.nfa_facts.specs.Prefixes.{BeginsWith, OccursBefore}
use Rattle.nfa_facts.specs.declared.literal.levels.Levels.{Levels}
use Rattle.nfa_facts.proofs.FewLemmas.{some-then}

-- what is so of the value in a result
pub ok-some-then : {A E : Type 0} {P Q : A → Type 0} (r : Result (Option A) E) → ((a : A) → P a → Q a)
    → IfOk r (λ o. IfSome o P) → IfOk r (λ o. IfSome o Q)
ok-some-then (Ok o) each h = some-then o each h
ok-some-then (Err e) each h = h

module _ (hay : List ℕ) where
  -- a text is longer by the byte after it
  pub occurs-longer : (text : List ℕ) (byte k : ℕ) → OccursAt hay text k → k + length text < length hay
      → get_or hay (k + length text) 0 ≡ byte → OccursAt hay (text ++ byte ∷ []) k
  occurs-longer text byte k h inside same = record {
    fits = omega (arith, length_push text byte, inside);
    reads = λ j less.
        elim (cases_lt j (length text)) [
          | inl before ↦ h.reads j before ∙ sym (get_or_append_left text (byte ∷ []) 0 j before)
          | inr past ↦
              let last : length text ≡ j = omega (arith, past, less, length_push text byte) in
              ap (λ i. get_or hay (k + i) 0) (sym last) ∙ same ∙ sym (get_or_push text byte 0 j last)
        ];
  }

  -- one of the texts is still there if one more is added
  pub begins-push : (texts : List (List ℕ)) (text : List ℕ) (count k : ℕ) → BeginsWithOne hay texts count k
      → BeginsWithOne hay (texts ++ text ∷ []) count k
  begins-push texts text count k h =
      let same = get_or_append_left texts (text ∷ []) [] h.number h.within in
      record {
        number = h.number;
        within = omega (arith, h.within, length_push texts text);
        long = ap length same ∙ h.long;
        occurs = subst (λ t. OccursAt hay t k) (sym same) h.occurs;
      }

  -- the text that is added is one of them
  pub begins-last : (texts : List (List ℕ)) (text : List ℕ) (k : ℕ) → OccursAt hay text k
      → BeginsWithOne hay (texts ++ text ∷ []) (length text) k
  begins-last texts text k h =
      let same = get_or_push texts text [] (length texts) refl in
      record {
        number = length texts;
        within = omega (arith, length_push texts text);
        long = ap length same;
        occurs = subst (λ t. OccursAt hay t k) (sym same) h;
      }

  -- the one that is there is an earlier one, or the last
  pub begins-cases : (texts : List (List ℕ)) (text : List ℕ) (count k : ℕ)
      → BeginsWithOne hay (texts ++ text ∷ []) count k
      → BeginsWithOne hay texts count k ⊎ ((length text ≡ count) × OccursAt hay text k)
  begins-cases texts text count k h =
      elim (cases_lt h.number (length texts)) [
        | inl before ↦
            let same = get_or_append_left texts (text ∷ []) [] h.number before in
            inl (record {
              number = h.number;
              within = before;
              long = ap length (sym same) ∙ h.long;
              occurs = subst (λ t. OccursAt hay t k) same h.occurs;
            })
        | inr past ↦
            let last : length texts ≡ h.number = omega (arith, past, h.within, length_push texts text) in
            let same = get_or_push texts text [] h.number last in
            inr (ap length (sym same) ∙ h.long, subst (λ t. OccursAt hay t k) same h.occurs)
      ]

  pub begins-none : (count k : ℕ) → ¬ BeginsWithOne hay [] count k
  begins-none count k h = omega (arith, h.within)

  -- one of them is there
  pub begins-any : (texts : List (List ℕ)) (count k : ℕ) → BeginsWithOne hay texts count k → AnyOccursAt hay texts k
  begins-any texts count k h = (h.number, h.within, h.occurs)

  -- the empty text is everywhere
  pub begins-empty : (k : ℕ) → k ≤ length hay → BeginsWithOne hay ([] ∷ []) 0 k
  begins-empty k fits = record {
    number = 0;
    within = omega arith;
    long = refl;
    occurs = record { fits = omega (arith, fits); reads = λ j less. absurd (omega (arith, less)) };
  }

-- a byte of a level is one of 256
pub in-level : (level : List Bool) (hay : List ℕ) (k : ℕ) → length level ≡ 256 → IsInSet level hay k
    → get_or hay k 0 < 256
in-level level hay k size is =
    elim (cases_lt (get_or hay k 0) 256) [
      | inl less ↦ less
      | inr past ↦
          let none : get_or level (get_or hay k 0) false ≡ false =
          get_or_past level (get_or hay k 0) false (omega (arith, past, size)) in
          absurd (cc (is, none))
    ]

-- bytes that are before the end of a span are in the haystack up to there
occurs-up-to : (haystack bytes : List ℕ) (end at : ℕ) → end ≤ length haystack → OccursBefore haystack end bytes at
    → OccursAt (slice_range haystack 0 end) bytes at
occurs-up-to haystack bytes end at fits h = record {
  fits = omega (arith, h.within, length-between haystack 0 end fits);
  reads = λ j less.
      let there : 0 + (at + j) ≡ at + j = omega arith in
      let inside : at + j < end = omega (arith, h.within, less) in
      let read : slice_get haystack (at + j) ≡ Some (get_or bytes j 0) =
      h.same j less ∙ slice_get-get_or bytes j 0 less in
      get_or-between haystack 0 end (at + j) 0 (omega (arith, inside)) ∙ ap (λ i. get_or haystack i 0) there
      ∙ get_or_from_slice_get haystack (at + j) (get_or bytes j 0) 0 read;
}

-- so a search for bytes that each match begins with admits where it starts
pub prefix-admits : (nfa : Automaton) (bytes : List ℕ) (found : Levels) → BeginsWith nfa bytes
    → ((hay : List ℕ) (k : ℕ) → OccursAt hay bytes k → AdmitsAt found hay k) → AdmitsMatches nfa found
prefix-admits nfa bytes found begins admits = record {
  admits = λ x at fits small matches.
      admits (slice_range x.haystack 0 x.end) at
      (occurs-up-to x.haystack bytes x.end at fits (begins.occurs x at matches));
}

-- For callers with a pattern that is written out: the computation of the grammar on a literal, and where parts of
-- patterns match.
use Rattle.std.proofs.lemmas.Map.Keys.{any_passes_from_place}
use Rattle.regex_class.specs.Ranges.{HasExactly, in_range}
use Rattle.nfa_compiler.specs.Common.{Matches, copies, Re, byte_in, char_in, empty, has_bytes_at, is_boundary, SameTree, Set, members, MatchesIn, MatchesInStr}
use Rattle.regex_compile.proofs.ByteLemmas.{has_bytes_at-cons}
use Rattle.regex_hir.proofs.TextLemmas.{has_bytes_at_from}
use Rattle.regex_syntax.proofs.Written.{grammar}
pub use Rattle.regex_class.specs.Ranges.{Range, in_ranges}
pub use Rattle.regex_syntax.proofs.Written.{alone, class_is, same_group, same_plus}
pub use Rattle.regex_syntax.proofs.TreeLaws.{same_refl, same_sym, ◌then◌, cat_cong, alt_cong, cat-empty, alt-fail, literal-append, byte_in_ascii}
use Rattle.nfa_paths.proofs.MemberLemmas.{same_test}
use Rattle.nfa_paths.proofs.Common.{Any-from_list_any, ◌≡◌, ℕ, zero, suc, ◌+◌, ◌≤◌, ◌<◌, Bool, true, List, [], ◌∷◌, refl, sym, ap, ◌∙◌, subst, arith, Some, IsSomeAnd, slice_get, ◌↔◌, list_any, drop, nat_tests, slice_get-get_or}

-- what an answer unfolds to compute what the grammar reads in a literal
unfoldable pub on_literals : Unit {0}
unfolding grammar in_range in_ranges
on_literals = tt

-- what a part of a text is read as

-- a class of ASCII in brackets
pub ascii-class : (set : Set) (rs : List Range) → HasExactly rs set → ((c : ℕ) → in_ranges rs c ≡ true → c ≤ 127)
    → SameTree (char_in (members set)) (byte_in rs)
ascii-class set rs exactly small = class_is set rs exactly then same_sym (byte_in_ascii rs small)

-- a part that is repeated n times
pub same-copies : (n : ℕ) (rest : Re) {a b : Re} → SameTree a b → SameTree (copies n a rest) (copies n b rest)
same-copies zero rest same = same_refl rest
same-copies (suc n) rest same = cat_cong same (same-copies n rest same)

-- where it matches

-- each of the n bytes from i on passes the test
abbrev pub ArePassed : List ℕ → (ℕ → Bool) → ℕ → ℕ → Type 0
ArePassed haystack test i n = (k : ℕ) → k < n → IsSomeAnd (slice_get haystack (i + k)) (λ b. test b ≡ true)

module _ (haystack : List ℕ) where
  -- one byte, written out
  pub byte-match : (i b : ℕ) → (has_bytes_at haystack i (b ∷ []) ≡ true) ↔ (slice_get haystack i ≡ Some b)
  byte-match i b =
      let none = has_bytes_at_from haystack (i + 1) [] (drop (i + 1) haystack) refl in
      grind (arith, nat_tests, none, has_bytes_at-cons haystack i b [])

  module _ (rs : List Range) (test : ℕ → Bool) (same : (b : ℕ) → in_ranges rs b ≡ test b) where
    -- the byte at the place passes
    abbrev Passes : ℕ → Type 0
    Passes p = IsSomeAnd (slice_get haystack p) (λ b. test b ≡ true)

    passing : (p : ℕ) → Passes p → (b : ℕ) × (slice_get haystack p ≡ Some b) × (test b ≡ true)
    passing p there = grind arith

    from-first : (P : ℕ → Type 0) (n : ℕ) → P 0 → ((l : ℕ) → l < n → P (suc l)) → (k : ℕ) → k < suc n → P k
    from-first P n here later zero less = here
    from-first P n here later (suc l) less = later l (omega arith)

    -- n bytes of a class
    pub class-match : (n i j : ℕ)
        → Matches haystack (copies n (byte_in rs) empty) i j ↔ (ArePassed haystack test i n × (j ≡ i + n))
    class-match zero i j = (λ e. (λ k less. absurd (omega arith), omega (arith, e)), λ p. omega (arith, p.1))
    class-match (suc n) i j = (
      λ m.
          let rest = (class-match n m.0 j).0 m.2 in
          let at : m.0 ≡ i + 1 = m.1.3 in
          let zeroth : i ≡ i + 0 = omega arith in
          let byte : Passes i =
          subst (λ o. IsSomeAnd o (λ b. test b ≡ true)) (sym m.1.1) (sym (same m.1.0) ∙ m.1.2) in (
            from-first (λ k. Passes (i + k)) n (subst (λ q. Passes q) zeroth byte) (λ l below.
                let next : m.0 + l ≡ i + suc l = omega (arith, at) in subst (λ q. Passes q) next (rest.0 l below)),
            omega (arith, at, rest.1),
          ),
      λ p.
          let zeroth : i + 0 ≡ i = omega arith in
          let b = passing i (subst (λ q. Passes q) zeroth (p.0 0 (omega arith))) in (
            i + 1,
            (b.0, b.1, same b.0 ∙ b.2, refl),
            (class-match n (i + 1) j).1 (
              λ l below.
                  let next : i + suc l ≡ i + 1 + l = omega arith in
                  subst (λ q. Passes q) next (p.0 (suc l) (omega (arith, below))),
              omega (arith, p.1),
            ),
          ),
    )

    -- only a class: a byte of the haystack passes
    pub class-anywhere : (found : Bool) → (found ≡ true) ↔ MatchesIn haystack (byte_in rs)
        → found ≡ list_any test haystack
    class-anywhere found either = same_test found (list_any test haystack) to from
      where
        to : found ≡ true → list_any test haystack ≡ true
        to e =
            let m = either.0 e in
            let b = m.matches in
            any_passes_from_place test haystack m.start b.0 b.1 (sym (same b.0) ∙ b.2)

        from : list_any test haystack ≡ true → found ≡ true
        from e =
            let b = Any-from_list_any test haystack e in
            either.1 (record {
              start = b.0;
              end = b.0 + 1;
              within = omega (arith, b.2);
              matches = (b.1, slice_get-get_or haystack b.0 b.1 b.2 ∙ ap Some b.3, same b.1 ∙ b.4, refl);
            })

-- In a `str`, a pattern whose matches begin with ASCII matches from boundaries only.

ascii-here : (haystack : List ℕ) (i b : ℕ) → slice_get haystack i ≡ Some b → b ≤ 127
    → is_boundary haystack i ≡ true
unfolding is_boundary
ascii-here haystack i b there low = rw there (grind (arith, nat_tests))

pub from-boundaries : (haystack : List ℕ) (re : Re)
    → ((i j : ℕ) → Matches haystack re i j → IsSomeAnd (slice_get haystack i) (λ b. b ≤ 127))
    → MatchesInStr haystack re ↔ MatchesIn haystack re
from-boundaries haystack re ascii = (
  λ m. record { start = m.start; end = m.end; within = m.within; matches = m.matches },
  λ m.
      record {
        start = m.start;
        end = m.end;
        within = m.within;
        boundary = grind (arith, ascii-here haystack m.start, ascii m.start m.end m.matches);
        matches = m.matches;
      },
)

-- What an escaped text finds.
use Rattle.regex_hir.proofs.FindLemmas.{IsFirst-of_first_between, none_of_first_between}
use Rattle.regex_hir.proofs.TextLemmas.{has_bytes_at_from, has_bytes_at_parts}
use Rattle.regex_hir.specs.Re.{Trace}
use Rattle.regex_hir.specs.Text.{has_bytes_at}
use Rattle.regex_syntax.specs.Captures.{SameCaptures, outcome}
use Rattle.regex_syntax.specs.Verdict.{ReadsAsText}
use Rattle.nfa_paths.proofs.Common.{◌≡◌, ◌∙◌, ℕ, ◌+◌, ◌≤◌, ◌<◌, All, Bool, true, false, List, []}
use Rattle.nfa_paths.proofs.Common.{◌∷◌, ◌++◌, drop, take, length, Option, None, Some, IfNone, IfSome, IsSomeAnd}
use Rattle.nfa_paths.proofs.Common.{refl, sym, ap, subst, arith, chars, option_and_then}
use Rattle.std.proofs.Common.{take-append-drop, take_at, true≢false, if◌then◌else◌}
use Rattle.std.proofs.lemmas.Option.{none-some, same_Some}
use Rattle.nfa_compiler.specs.Common.{Match, find, Re, accept, attempt, literal, Nested, Names, read, byte_syntax}
use Rattle.nfa_compiler.specs.WrittenPatterns.{IsFirstPlace, Stands, first_match}

-- where the bytes stand, a literal of them matches, and nowhere else
has-bytes : (bytes hay : List ℕ) (i : ℕ) → Stands bytes hay i → has_bytes_at hay i bytes ≡ true
has-bytes bytes hay i stands =
    has_bytes_at_from hay i bytes (drop (length bytes) (drop i hay))
    (sym (take-append-drop (length bytes) (drop i hay)) ∙ ap (λ xs. xs ++ drop (length bytes) (drop i hay)) stands.are)

bytes-stand : (bytes hay : List ℕ) (i : ℕ) → i ≤ length hay → has_bytes_at hay i bytes ≡ true → Stands bytes hay i
bytes-stand bytes hay i le has = record {
  inside = le;
  are = subst (λ xs. take (length bytes) xs ≡ bytes) (sym (has_bytes_at_parts hay i bytes has))
      (take_at bytes (drop (i + length bytes) hay) (length bytes) refl);
}

module _ (bytes hay : List ℕ) (i : ℕ) where
  -- what a match of the bytes is, if they are there, and what there is if they are not
  abbrev literal_at : Bool → Option Trace
  literal_at has = if has then accept (i + length bytes) else None

  record IsLiteralAt (o : Option Trace) : Type 0 where
    there : IfSome o (λ t. has_bytes_at hay i bytes ≡ true)
    end : IfSome o (λ t. t.end ≡ i + length bytes)
    none : IfNone o (has_bytes_at hay i bytes ≡ false)

  literal-outcome : (o : Option Trace) → outcome o ≡ outcome (attempt hay (literal bytes) accept i) → IsLiteralAt o
  unfolding attempt outcome
  literal-outcome o e = of (has_bytes_at hay i bytes) refl o e
    where
      of : (has : Bool) → has_bytes_at hay i bytes ≡ has → (o : Option Trace) → outcome o ≡ outcome (literal_at has)
          → IsLiteralAt o
      of true at (Some t) e = record {
        there = at;
        end = ap (λ ((end, last) : ℕ × (ℕ → Option ℕ)). end) (same_Some _ _ e);
        none = tt;
      }
      of true at None e = absurd (none-some _ e)
      of false at (Some t) e = absurd (none-some _ (sym e))
      of false at None e = record { there = tt; end = tt; none = at }

-- a pattern that is read as the bytes
module _ (bytes hay : List ℕ) (re : Re) (same : SameCaptures re (literal bytes)) (octets : All (λ x. x < 256) hay) where
  at-place : (i : ℕ) → IsLiteralAt bytes hay i (attempt hay re accept i)
  at-place i = literal-outcome bytes hay i (attempt hay re accept i) (same.at hay octets accept i)

  stands-nowhere : (i : ℕ) → attempt hay re accept i ≡ None → ¬ (Stands bytes hay i)
  stands-nowhere i none stands =
      true≢false (sym (has-bytes bytes hay i stands)
      ∙ (subst (IsLiteralAt bytes hay i) none (at-place i)).none)

  first-place : (o : Option Match) → find re hay 0 ≡ o → IsFirstPlace bytes hay o
  unfolding find
  first-place None is = record {
    stands = tt;
    end = tt;
    first = tt;
    none = λ place stands. stands-nowhere place
        (none_of_first_between (attempt hay re accept) 0 (length hay) is place (omega arith) stands.inside) stands;
  }
  first-place (Some m) is =
      let first = IsFirst-of_first_between (attempt hay re accept) 0 (length hay) m is in
      let here = subst (IsLiteralAt bytes hay m.start) first.here (at-place m.start) in
      record {
        stands = bytes-stand bytes hay m.start first.to here.there;
        end = here.end;
        first = λ place before. stands-nowhere place (first.before place (omega arith) before);
        none = tt;
      }

-- the pattern of the escaped text finds the text
pub escaped-first : (escaped text hay : List ℕ) → ReadsAsText escaped text → All (λ x. x < 256) hay
    → IsFirstPlace text hay (first_match escaped hay)
unfolding ReadsAsText first_match
escaped-first escaped text hay reads octets =
    of (read byte_syntax (chars escaped)) (reads byte_syntax refl refl)
  where
    of : (o : Option (Nested Re × Names))
        → IsSomeAnd o (λ (re, names). (re.depth ≤ 1) × SameCaptures re.value (literal text) × (names ≡ None ∷ []))
        → IsFirstPlace text hay (option_and_then (λ (found, names). find found.value hay 0) o)
    of None never = absurd never
    of (Some (re, names)) is = first-place text hay re.value is.1 octets (find re.value hay 0) refl

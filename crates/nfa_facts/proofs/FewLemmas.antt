-- Positions whose bytes no match begins with are passed over.
use Rattle.std.proofs.lemmas.List.Edits.{get_or-between}
use Rattle.memchr.specs.Find.{Nowhere, Passes}
use Rattle.nfa_paths.proofs.Common.{All, ◌≡◌, ◌∙◌, ℕ, ◌+◌, ◌-◌, ◌<◌, ◌≤◌, ◌⊎◌, inl, inr, List, ap, subst, arith, false, cases_lt, false_from_ne_true, get_or, length, slice_range, IfNone, IfSome, None, Option, Some, Search, Automaton}
use Rattle.nfa_paths.proofs.StartLemmas.{byte_at-inside}
use Rattle.nfa_engines.specs.StartLaws.{IsFirstStart, NothingAtByte}
use Rattle.nfa_facts.specs.FewBytes.{BeginsAmong, LacksBetween, is_among}
use Rattle.nfa_facts.specs.declared.literal.few_bytes.FewBytes.{FewBytes}

-- what is so if there is none, or of the value
pub none-then : {A : Type 0} {P Q : Type 0} (o : Option A) → (P → Q) → IfNone o P → IfNone o Q
none-then None each h = each h
none-then (Some a) each h = tt

pub some-then : {A : Type 0} {P Q : A → Type 0} (o : Option A) → ((a : A) → P a → Q a) → IfSome o P → IfSome o Q
some-then None each h = tt
some-then (Some a) each h = each a h

-- what no position of a part up to this one has is not in the haystack there
pub lacks-up-to : (few : FewBytes) (haystack : List ℕ) (from end count : ℕ) → end ≤ length haystack
    → from + count ≤ end → Nowhere (Passes (is_among few) (slice_range haystack from end)) 0 count
    → LacksBetween few haystack from (from + count)
lacks-up-to few haystack from end count within fits none = record {
  none = λ k low less.
      let e : from + (k - from) ≡ k = omega arith in
      let same : get_or (slice_range haystack from end) (k - from) 0 ≡ get_or haystack k 0 =
      get_or-between haystack from end (k - from) 0 (omega arith) ∙ ap (λ i. get_or haystack i 0) e in
      subst (λ b. is_among few b ≡ false) same
      (false_from_ne_true (is_among few (get_or (slice_range haystack from end) (k - from) 0))
      (none (k - from) (omega arith) (omega arith)));
}

-- a start before which nothing matches moves past bytes that no match begins with
pub others-passed : (nfa : Automaton) (x : Search) (few : FewBytes) (from at : ℕ) → NothingAtByte
    → BeginsAmong nfa few → x.end ≤ length x.haystack → All (λ b. b < 256) x.haystack
    → IsFirstStart nfa x from → from ≤ at → (at ≤ x.end) ⊎ (at ≡ from) → LacksBetween few x.haystack from at
    → IsFirstStart nfa x at
others-passed nfa x few from at nothing among fits small first onward within lacks =
    let low : x.start ≤ from = first.from in
    record {
      from = omega arith;
      nothing = λ i start less.
          elim (cases_lt i from) [
            | inl before ↦ first.nothing i start before
            | inr past ↦
                let inside : i < x.end = elim within [ inl to ↦ omega arith | inr same ↦ omega arith ] in
                nothing nfa x i (get_or x.haystack i 0)
                (among.others (get_or x.haystack i 0) (small i 0 (omega arith)) (lacks.none i past less))
                (byte_at-inside x i inside fits)
          ];
    }

-- Where required bytes are first, and the line that they are on.
use Rattle.nfa_paths.proofs.Common.{◌≡◌, ℕ, ◌-◌, ◌<◌, ◌≤◌, inl, inr, List, arith, Some, true, slice_get, cases_lt}
use Rattle.nfa_facts.specs.Prefixes.{IsFirstOccurrence, OccursNowhere}
use Rattle.nfa_facts.specs.RequiredBytes.{LacksBefore, LacksFrom}
use Rattle.nfa_facts.specs.declared.literal.required_bytes.RequiredBytes.{RequiredBytes}

module _ (r : RequiredBytes) (haystack : List ℕ) (end from : ℕ) where
  -- bytes that occur nowhere are ahead of no position
  pub nowhere-lacks : OccursNowhere haystack end r.bytes.items from → LacksFrom r haystack end from
  nowhere-lacks none = record {
    none = λ k low h. let past : k ≤ h.place = h.onward in none.nowhere h.place (omega arith) h.here;
  }

  -- nothing lies between a position and itself
  pub same-lacks : LacksBefore r haystack end from from
  same-lacks = record { onward = omega arith; none = λ k low less. absurd (omega arith) }

  -- no match starts before the line on which the bytes are first
  pub line-lacks : (first at : ℕ) → IsFirstOccurrence haystack end r.bytes.items from first → r.on_line ≡ true
      → from ≤ at → at ≤ first → (from < at → slice_get haystack (at - 1) ≡ Some 10)
      → LacksBefore r haystack end from at
  line-lacks first at is line low high feed = record {
    onward = low;
    none = λ k past less h.
        let onward : k ≤ h.place = h.onward in
        elim (cases_lt h.place first) [
          | inl before ↦ is.before h.place (omega arith) before h.here
          | inr after ↦ h.line line (at - 1) (omega arith) (omega arith) (feed (omega arith))
        ];
  }

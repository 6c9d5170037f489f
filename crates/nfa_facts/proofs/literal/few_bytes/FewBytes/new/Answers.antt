-- The table refuses only bytes that no match begins with.
use Rattle.std.proofs.Common.{◌≡◌, arith, false, inl, inr, refl, slice_index_or, subst, sym, true}
use Rattle.std.proofs.lemmas.Bool.{cases_lt}
use Rattle.nfa_scan_core.proofs.FirstLemmas.{begins-none}
use Rattle.nfa_facts.specs.FewBytes.{is_among}
use Rattle.nfa_facts.proofs.literal.few_bytes.FewBytes.new.Goals as goal

pub loop-byte-preserved : goal.loop-byte-preserved
loop-byte-preserved c = λ b below none.
    elim (cases_lt b c.loop-byte.byte) [
      | inl before ↦ c.loop-byte.invariant b before (c.with_admitted-few.ensures.keeps b none)
      | inr past ↦
          let same : c.loop-byte.byte ≡ b = omega arith in
          subst (λ k. slice_index_or c.new-table.result.may_begin k true ≡ false) same
          (c.with_admitted-few.ensures.refused
          (subst (λ k. is_among c.with_admitted-few.result k ≡ false) (sym same) none))
    ]

pub returns : goal.returns
returns c = record {
  others = λ byte small none.
      begins-none c.new-table.ensures byte {refused = true}
      (λ refused. c.loop-byte.invariant byte (omega (arith, c.loop-byte-test.false)) none) refl;
}

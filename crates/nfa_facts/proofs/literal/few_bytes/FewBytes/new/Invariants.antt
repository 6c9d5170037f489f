-- The bytes so far are among these, or the table refuses them.
use Rattle.std.proofs.Common.{◌≡◌, ℕ, ◌<◌, false, true, slice_index_or}
use Rattle.nfa_facts.specs.FewBytes.{is_among}
use Rattle.nfa_facts.proofs.literal.few_bytes.FewBytes.new.Given as goal

abbrev pub invariant-loop-byte : goal.invariant-loop-byte
invariant-loop-byte l =
    (b : ℕ) → b < l.byte → is_among l.few b ≡ false → slice_index_or l.table.may_begin b true ≡ false

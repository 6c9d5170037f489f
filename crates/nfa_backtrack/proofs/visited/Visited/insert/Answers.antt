-- One mark is set, or it was set before.
use Rattle.std.proofs.Common.{ap, arith, length-set, true, false}
use Rattle.nfa_scan_core.specs.Marks.{Marks}
use Rattle.nfa_backtrack.proofs.BitLemmas.{block_within, bit-clear, bit-set, bits_of-mark, IsClearFrom-set}
use Rattle.nfa_backtrack.proofs.visited.Visited.insert.Goals as goal

pub returns-then-marked-block-clause-seen : goal.returns-then-marked-block-clause-seen
returns-then-marked-block-clause-seen c = λ _. (
  bit-set _ c.self.view_is c.requires c.index-block.ensures c.if-marked-block.true false,
  ap (λ (m : Marks). m.bits) c.self.view_is,
)

pub invariant_of-self-then-self-index : goal.invariant_of-self-then-self-index
invariant_of-self-then-self-index c =
    let within = block_within _ c.self.view_is c.requires in (
      rw length-set (omega arith),
      IsClearFrom-set c.self.inside.used _ _ c.self.inside.blocks.items c.self.invariant.1 c.if-self-index.true,
    )

pub returns-then-self-index-clause-fresh : goal.returns-then-self-index-clause-fresh
returns-then-self-index-clause-fresh c = λ _. (
  bit-clear _ c.self.view_is c.requires c.index-block.ensures c.if-marked-block.false true,
  bits_of-mark _ c.self.view_is c.requires c.index-block.ensures,
)

pub returns-else-self-index-clause-fresh : goal.returns-else-self-index-clause-fresh
returns-else-self-index-clause-fresh c = λ _. (
  bit-clear _ c.self.view_is c.requires c.index-block.ensures c.if-marked-block.false true,
  bits_of-mark _ c.self.view_is c.requires c.index-block.ensures,
)

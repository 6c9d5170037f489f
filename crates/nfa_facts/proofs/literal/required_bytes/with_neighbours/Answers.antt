-- Each match has the longer bytes, or those that were the longest before.
use Rattle.nfa_facts.proofs.literal.required_bytes.with_neighbours.Goals as goal
use Rattle.nfa_facts.proofs.literal.required_bytes.with_neighbours.Goals.{then-len+then-contains+in_ok-best-2, else-len}

pub loop-index-preserved : goal.loop-index-preserved
loop-index-preserved c =
    elim c.if-len.branch [
      | then-len+then-contains+in_ok-best-2 w ↦ rw w.best-is w.in_ok-best-2.ensures
      | else-len w ↦ rw w.best-is c.loop-index.invariant
    ]

-- The states that a state leads to without a byte are reached, and the bytes that it reads are admitted.
use Rattle.nfa_scan_core.proofs.first_bytes.follow.Goals as goal

pub returns-then-add-clause-below : goal.returns-then-add-clause-below
returns-then-add-clause-below c = λ n leads before.
    let both = rw c.in-BinaryUnion.is at leads in
    c.add-then-add.ensures.below n both.1 (c.add-in-BinaryUnion.ensures.below n both.0 before)

-- The action is that of the branch.
use Rattle.replacer.proofs.shown.show.Goals as goal

pub returns-in_ok-made-in-Replace-clause-text : goal.returns-in_ok-made-in-Replace-clause-text
returns-in_ok-made-in-Replace-clause-text c =
    rw (c.in-Replace.is, ← c.deref.ensures.value) c.in_ok-made-in-Replace.ensures.text

pub returns-in_ok-made-in-Replace-clause-left : goal.returns-in_ok-made-in-Replace-clause-left
returns-in_ok-made-in-Replace-clause-left c = rw c.in-Replace.is c.in_ok-made-in-Replace.ensures.left

pub returns-in_ok-text-in-Split-clause-text : goal.returns-in_ok-text-in-Split-clause-text
returns-in_ok-text-in-Split-clause-text c = rw c.in-Split.is c.in_ok-text-in-Split.ensures.meant

pub returns-in_ok-text-in-SplitN-clause-text : goal.returns-in_ok-text-in-SplitN-clause-text
returns-in_ok-text-in-SplitN-clause-text c = rw c.in-SplitN.is c.in_ok-text-in-SplitN.ensures.meant

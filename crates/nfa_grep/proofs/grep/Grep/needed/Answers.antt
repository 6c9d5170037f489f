-- The invariant says so.
use Rattle.nfa_grep.proofs.grep.Grep.needed.Goals as goal

pub returns : goal.returns
returns c = rw (c.deref.ensures.value, ← c.self.view_is) c.self.invariant.2.each

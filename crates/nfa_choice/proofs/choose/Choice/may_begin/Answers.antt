-- The backtracker's NFA is that of the choice.
use Rattle.nfa_choice.proofs.choose.Choice.may_begin.Goals as goal

pub returns-clause-may : goal.returns-clause-may
returns-clause-may c = λ may. rw (← c.self.view_is) (c.may_begin.ensures.may may)

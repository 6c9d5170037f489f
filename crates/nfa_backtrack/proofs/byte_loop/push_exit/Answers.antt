-- A turn at a union goes on at its first alternative, with the second one pushed, or finds its place marked.
use Rattle.nfa_backtrack.proofs.StepLemmas.{TurnsLead-marked, TurnsLead-union, refused-turn}
use Rattle.nfa_backtrack.proofs.byte_loop.push_exit.Goals as goal
use Rattle.nfa_paths.proofs.Common.{search_of}

pub returns-then-not-mark-clause-leads : goal.returns-then-not-mark-clause-leads
returns-then-not-mark-clause-leads c = λ slots. TurnsLead-marked (c.mark.ensures.seen c.if-not-mark.true)

pub returns-in_err-push-clause-refused : goal.returns-in_err-push-clause-refused
returns-in_err-push-clause-refused c =
    refused-turn c.from_residual.result c.args.nfa.now (search_of c.args.input.now)
    c.args.scratch.now.stack.items c.args.scratch.now.visited c.mark.new.visited
    c.mark.ensures.turns

pub returns-clause-leads : goal.returns-clause-leads
returns-clause-leads c = λ slots.
    rw (c.in_ok-push.ensures.items, c.later.ensures, c.to.ensures)
    (TurnsLead-union (c.mark.ensures.taken c.if-not-mark.false) c.requires.place.row c.requires.state c.requires.into
    c.requires.out)

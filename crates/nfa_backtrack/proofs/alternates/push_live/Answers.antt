-- The alternative is pushed, or leads nowhere.
use Rattle.nfa_backtrack.proofs.AlternateLemmas.{PushesLive-dead, PushesLive-push}
use Rattle.nfa_backtrack.proofs.alternates.push_live.Goals as goal

pub returns-then-is_dead_end : goal.returns-then-is_dead_end
returns-then-is_dead_end c = λ x rest before is_place here pushed.
    PushesLive-dead c.args.nfa.now x pushed c.args.sid
    (c.is_dead_end.ensures c.if-is_dead_end.true x c.args.place.now.at here)

pub returns : goal.returns
returns c = λ x rest before is_place here pushed.
    rw (c.in_ok-push.ensures.items, c.later.ensures)
    (PushesLive-push c.args.nfa.now x pushed c.args.sid c.requires is_place)

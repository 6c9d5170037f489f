-- The only state of a position is followed.
use Rattle.nfa_paths.proofs.Common.{arith}
use Rattle.nfa_pikevm_scan.proofs.NextsLemmas.{ClosuresGive-one, items-one}
use Rattle.nfa_pikevm_scan.proofs.nexts.nexts_of_one.Goals as goal

pub returns-clause-arrive : goal.returns-clause-arrive
returns-clause-arrive g c =
    let width = c.width-width.result in
    rw (← c.width-width.ensures)
    (ClosuresGive-one c.requires.ready.empty c.requires.ready.clear
    (items-one width _ c.args.kept.now c.args.rows.now c.index-kept-0.result c.requires.one c.index-kept-0.is
    (omega arith)) c.epsilon_closure.ensures.arrives)

-- No byte is left without a cut.
use Rattle.std.proofs.Common.{◌≡◌, true, false, get_or, arith}
use Rattle.nfa_lazy_dfa.proofs.cuts.cut_everywhere.Goals as goal

pub returns-clause-none : goal.returns-clause-none
returns-clause-none c = λ k uncut.
    let below = uncut.below in
    let cut : get_or c.loop-at.cuts k false ≡ true = c.loop-at.invariant k (omega arith) in
    cc (cut, uncut.clear)

pub returns-clause-keeps : goal.returns-clause-keeps
returns-clause-keeps c = record { keeps = λ k uncut. absurd (returns-clause-none c k uncut) }

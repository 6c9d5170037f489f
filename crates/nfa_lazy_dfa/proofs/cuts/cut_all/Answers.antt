-- All ranges are cut around.
use Rattle.std.proofs.Common.{arith}
use Rattle.nfa_lazy_dfa.proofs.CutLemmas.{first-alike}
use Rattle.nfa_lazy_dfa.proofs.cuts.cut_all.Goals as goal

pub returns-clause-alike : goal.returns-clause-alike
returns-clause-alike c = λ k uncut.
    first-alike c.args.transitions.now k (λ j d less. c.loop-trans.invariant.alike k uncut j d (omega arith))

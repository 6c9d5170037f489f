-- None of the targets is the state.
use Rattle.std.proofs.Common.{arith}
use Rattle.nfa_lazy_dfa.proofs.ApartLemmas.{targets-apart}
use Rattle.nfa_lazy_dfa.proofs.apart.has_target.Goals as goal

pub returns : goal.returns
returns c = λ e byte. targets-apart c.args.targets.now c.args.sid byte
    (λ j d less. c.loop-target.invariant j d (omega arith))

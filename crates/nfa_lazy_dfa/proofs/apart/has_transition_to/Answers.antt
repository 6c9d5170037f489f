-- None of the transitions leads to the state.
use Rattle.std.proofs.Common.{arith}
use Rattle.nfa_lazy_dfa.proofs.ApartLemmas.{first-apart}
use Rattle.nfa_lazy_dfa.proofs.apart.has_transition_to.Goals as goal

pub returns : goal.returns
returns c = λ e byte. first-apart c.args.transitions.now c.args.sid byte
    (λ j d less. c.loop-trans.invariant j d (omega arith))

-- Lists whose elements are equal are equal.
use Rattle.nfa_paths.proofs.Common.{arith, ext_get_or}
use Rattle.nfa_lazy_dfa.proofs.index.same_states.Goals as goal

pub returns : goal.returns
returns c = λ e. ext_get_or 0 c.args.a.now c.args.b.now (omega arith) (λ k less. c.loop-index.invariant k (omega arith))

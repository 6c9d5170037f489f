-- None of the states leads to the start.
use Rattle.std.proofs.Common.{sym, ◌∙◌, ap, arith, Some}
use Rattle.nfa_lazy_dfa.proofs.ApartLemmas.{states-apart}
use Rattle.nfa_lazy_dfa.proofs.apart.is_start_apart.Goals as goal

pub returns : goal.returns
returns c = λ e. record {
  apart = states-apart c.args.nfa.now c.states-state-items.result.now c.args.nfa.now.anchored
      c.states-state-items.ensures.nodes
      (λ k less byte is.
      c.loop-state.invariant k (omega arith) byte (is ∙ ap Some (sym c.start_anchored-start.ensures.value)));
}

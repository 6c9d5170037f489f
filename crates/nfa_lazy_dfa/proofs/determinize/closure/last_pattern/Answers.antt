-- A later Match takes the place of the one before.
use Rattle.nfa_paths.proofs.Common.{◌∙◌, ap, sym, node_of, pattern_of}
use Rattle.nfa_paths.proofs.StartLemmas.{node_at-get}
use Rattle.nfa_lazy_dfa.proofs.StepLemmas.{last-more}
use Rattle.nfa_lazy_dfa.proofs.determinize.closure.last_pattern.Goals as goal

pub loop-sid-preserved : goal.loop-sid-preserved
loop-sid-preserved c =
    let nfa = c.args.nfa.now in
    let s = c.sid-item.result in
    let pattern = c.pattern_of.ensures
    ∙ sym (ap pattern_of (node_at-get nfa s (node_of c.state.result.now) c.state.ensures.node)) in
    rw c.or-last.ensures (last-more nfa c.args.states.now c.loop-sid.sid-index s c.loop-sid-test.true c.sid-item.is
    c.pattern_of.result c.loop-sid.last pattern ∙ c.loop-sid.invariant)

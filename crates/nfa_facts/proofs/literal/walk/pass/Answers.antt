-- The state is no match, and what it leads to is added.
use Rattle.nfa_paths.proofs.Common.{◌≡◌, node_at, node_of, pattern_of}
use Rattle.nfa_paths.proofs.StartLemmas.{node_at-get}
use Rattle.nfa_facts.proofs.ReachedLemmas.{none-of}
use Rattle.nfa_facts.proofs.literal.walk.pass.Goals as goal

pub returns-clause-passed : goal.returns-clause-passed
returns-clause-passed c = λ other.
    let node = node_of c.state-state.result.now in
    let is : node_at c.args.nfa.now c.args.id ≡ node =
    node_at-get c.args.nfa.now c.args.id node c.state-state.ensures.node in
    rw is (record {
      plain = none-of (pattern_of node) c.is_match.result c.is_match.ensures c.if-is_match.false;
      targets = rw c.byte.ensures at c.in_ok-follow.ensures.has;
      line = c.stays_on_line-still.ensures.here;
    })

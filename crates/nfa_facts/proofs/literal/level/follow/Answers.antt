-- The state is no match, and what it leads to is added to the list for its kind.
use Rattle.nfa_paths.proofs.Common.{◌≡◌, ◌∙◌, node_at, node_of, pattern_of, sym}
use Rattle.nfa_paths.proofs.StartLemmas.{node_at-get}
use Rattle.nfa_facts.proofs.LevelLemmas.{filled-over, filled-without}
use Rattle.nfa_facts.proofs.ReachedLemmas.{none-of}
use Rattle.nfa_facts.proofs.literal.level.follow.Goals as goal

pub returns-then-reads_byte-clause-filled : goal.returns-then-reads_byte-clause-filled
returns-then-reads_byte-clause-filled c = λ plain.
    let node = node_of c.state-state.result.now in
    let is : node_at c.args.nfa.now c.args.id ≡ node =
    node_at-get c.args.nfa.now c.args.id node c.state-state.ensures.node in
    rw is
    (filled-over c.args.here.now.states c.follow.new.self.states c.admit_bytes.new.level node
    (sym c.reads_byte.ensures ∙ c.if-reads_byte.true) c.in_ok-follow.ensures.has
    c.admit_bytes.ensures.has)

pub returns-clause-filled : goal.returns-clause-filled
returns-clause-filled c = λ plain.
    let node = node_of c.state-state.result.now in
    let is : node_at c.args.nfa.now c.args.id ≡ node =
    node_at-get c.args.nfa.now c.args.id node c.state-state.ensures.node in
    rw is
    (filled-without c.follow-2.new.self.states c.args.next.now.states c.args.level.now node
    (none-of (pattern_of node) c.is_match.result c.is_match.ensures c.if-is_match.false)
    (sym c.reads_byte.ensures ∙ c.if-reads_byte.false) c.in_ok-follow-2.ensures.has)

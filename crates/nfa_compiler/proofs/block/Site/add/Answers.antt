-- the states, the Match and the start make the pattern's block
use Rattle.std.proofs.Common.{◌∙◌, arith}
use Rattle.nfa_compiler.proofs.AddLemmas.{block-made, nodes-length, three-adds, two-length}
use Rattle.nfa_compiler.proofs.block.Site.add.Goals as goal

pub returns-clause-start : goal.returns-clause-start
returns-clause-start c =
    c.in_ok-start.ensures.number ∙ nodes-length c.push.new.states
    ∙ two-length _ _ _ _ _ _ _ _ (c.requires.base ∙ nodes-length c.args.states.now) c.in_ok-add_states.ensures.holds
    c.in_ok-push.ensures.nodes c.in_ok-start.ensures.nodes

pub returns-clause-added : goal.returns-clause-added
returns-clause-added c =
    three-adds _ _ _ _ _ _ _ _ (c.requires.base ∙ nodes-length c.args.states.now) c.in_ok-add_states.ensures.holds
    c.in_ok-push.ensures.nodes c.in_ok-start.ensures.nodes

pub returns-clause-block : goal.returns-clause-block
returns-clause-block c =
    block-made _ _ _ _ _ _ _ _ (c.requires.base ∙ nodes-length c.args.states.now) c.in_ok-add_states.ensures.holds
    c.in_ok-push.ensures.nodes c.in_ok-start.ensures.nodes c.in_ok-next.ensures.target.1
    (omega (arith, c.as_usize-slot.ensures.value)) c.in_ok-next.ensures.target.0

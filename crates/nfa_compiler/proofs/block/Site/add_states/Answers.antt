-- one more state is moved
use Rattle.nfa_compiler.proofs.AddLemmas.{holds-none, holds-more, nodes-push, nodes-length}
use Rattle.std.proofs.Common.{◌∙◌}
use Rattle.nfa_compiler.proofs.block.Site.add_states.Goals as goal

pub loop-id-init : goal.loop-id-init
loop-id-init c = holds-none _ _ _

pub loop-id-preserved : goal.loop-id-preserved
loop-id-preserved c =
    holds-more _ _ _ _ _ _ _ (c.requires.base ∙ nodes-length c.args.states.now)
    c.loop-id.invariant c.in_ok-state.ensures.stands
    (nodes-push _ _ _ c.in_ok-push.ensures.items)

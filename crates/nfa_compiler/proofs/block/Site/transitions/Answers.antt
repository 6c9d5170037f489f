-- one more transition is moved
use Rattle.nfa_paths.proofs.Common.{arith, ◌<◌, common_steps, All-more}
use Rattle.nfa_compiler.proofs.block.Site.transitions.Goals as goal

pub loop-transition-preserved : goal.loop-transition-preserved
loop-transition-preserved c = record {
  inside =
      All-more (λ t. t.next < c.args.self.size) _ _ _ c.loop-transition-test.true c.loop-transition.invariant.inside
      c.in_ok-transition.ensures.moved.0;
  moved = grind (arith, common_steps);
}

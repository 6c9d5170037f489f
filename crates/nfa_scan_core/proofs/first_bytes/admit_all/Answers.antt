-- The bytes of each transition are admitted, and no others.
use Rattle.nfa_paths.proofs.Common.{◌<◌, length, arith, common_steps}
use Rattle.nfa_scan_core.proofs.FirstLemmas.{admits-first, GrowsBy-more, Reads-among}
use Rattle.nfa_scan_core.proofs.first_bytes.admit_all.Goals as goal

pub loop-i-preserved : goal.loop-i-preserved
loop-i-preserved c =
    let inside : c.loop-i.i < length c.args.transitions.now = c.loop-i-test.true in
    record {
      grows = grind (arith, common_steps);
      done = grind (arith, common_steps);
      only = GrowsBy-more c.loop-i.invariant.only c.admit.ensures.only
          (λ b r. Reads-among c.args.transitions.now c.loop-i.i _ b inside (rw c.index-transitions-i.is at r));
    }

pub returns-clause-admits : goal.returns-clause-admits
returns-clause-admits c =
    admits-first c.loop-i.table c.args.transitions.now
    (λ k d h b. c.loop-i.invariant.done k (omega (arith, c.loop-i-test.false)) d b)

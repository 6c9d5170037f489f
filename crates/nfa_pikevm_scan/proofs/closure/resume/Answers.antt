-- Frames are popped down to a state to follow, and slots are restored on the way.
use Rattle.nfa_pikevm_scan.proofs.Common.{All-pop, HasSlot, Some, arith}
use Rattle.nfa_pikevm_scan.proofs.ClosureLemmas.{Resumes-none, Resumes-popped, popped-is}
use Rattle.nfa_pikevm_scan.proofs.closure.resume.Goals as goal

pub loop-top-init : goal.loop-top-init
loop-top-init c = grind (arith, Resumes-none)

pub returns-in-Some-clause-resumes : goal.returns-in-Some-clause-resumes
returns-in-Some-clause-resumes c =
    Resumes-popped c.index-frames-top.result c.loop-top.invariant.resumes
    (popped-is c.args.frames.now c.loop-top.top c.index-frames-top.result c.loop-top-test.true (omega arith)
    c.index-frames-top.is)
    c.in-Some.ensures.state c.apply_frame.ensures.row

pub loop-top-preserved : goal.loop-top-preserved
loop-top-preserved c =
    let pop = popped-is c.args.frames.now c.loop-top.top c.index-frames-top.result c.loop-top-test.true (omega arith)
    c.index-frames-top.is in
    record {
      below = omega arith;
      slots = rw c.apply_frame.auto.row
          (All-pop (HasSlot _) _ _ (Some c.index-frames-top.result) pop c.loop-top.invariant.slots).0;
      resumes = Resumes-popped c.index-frames-top.result c.loop-top.invariant.resumes pop c.in_default.ensures.state
          c.apply_frame.ensures.row;
    }

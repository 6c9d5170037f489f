-- Frames are popped down to a state to follow, and slots are restored on the way.
use Rattle.nfa_pikevm_scan.proofs.Common.{All, HasSlot, None, Resumes, length, take, ◌≤◌}
use Rattle.nfa_pikevm_scan.proofs.closure.resume.Given as goal

abbrev pub invariant-loop-top : goal.invariant-loop-top
invariant-loop-top l = record {
  below : l.top ≤ l.fn.top;
  slots : All (HasSlot (length l.row)) (take l.top l.frames);
  resumes : Resumes (take l.fn.top l.frames) l.fn.row None (take l.top l.frames) l.row;
}

abbrev pub decreases-loop-top : goal.decreases-loop-top
decreases-loop-top l = l.top

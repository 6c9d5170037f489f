-- While frames are applied, what is left of any search does not change.
use Rattle.std.proofs.Common.{length, All, None, vec_len}
use Rattle.nfa_backtrack.specs.Walk.{Resumes, WritesSlot}
use Rattle.nfa_backtrack.proofs.walk.resume.Given as goal

abbrev pub invariant-loop-frame : goal.invariant-loop-frame
invariant-loop-frame l = record {
  slots : All (WritesSlot (length l.slots)) l.stack.items;
  resumes : Resumes l.fn.stack.items l.fn.slots None l.stack.items l.slots;
}

abbrev pub decreases-loop-frame : goal.decreases-loop-frame
decreases-loop-frame l = vec_len l.stack

-- Applying a frame does not change what is left of any search.
use Rattle.std.proofs.Common.{append-nil, ◌∙◌}
use Rattle.nfa_backtrack.proofs.ApplyFrameLemmas.{slots-unwound, Resumes-none, Resumes-popped}
use Rattle.nfa_backtrack.proofs.walk.resume.Goals as goal

pub loop-frame-init : goal.loop-frame-init
loop-frame-init c = record {
  slots = c.requires;
  resumes = Resumes-none c.args.stack.now.items c.args.slots.now;
}

pub returns-in-Some-apply_frame-clause-resumes : goal.returns-in-Some-apply_frame-clause-resumes
returns-in-Some-apply_frame-clause-resumes c =
    Resumes-popped _ _ c.in-Some.frame _ _ _ c.in-Some.ensures.items c.in-Some-apply_frame.ensures
    c.loop-frame.invariant.resumes

pub loop-frame-preserved : goal.loop-frame-preserved
loop-frame-preserved c = record {
  slots = slots-unwound _ _ c.in-Some.frame _ _ _ c.in-Some.ensures.items c.in_default-apply_frame.ensures
      c.loop-frame.invariant.slots;
  resumes = Resumes-popped _ _ c.in-Some.frame _ _ _ c.in-Some.ensures.items c.in_default-apply_frame.ensures
      c.loop-frame.invariant.resumes;
}

pub returns-clause-resumes : goal.returns-clause-resumes
returns-clause-resumes c =
    rw (c.in_default.ensures.items ∙ append-nil c.pop.new.self.items) at c.loop-frame.invariant.resumes

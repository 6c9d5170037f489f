-- All that a root leads to without reading a byte is followed from match to match, until the position ends.
use Rattle.nfa_pikevm_scan.proofs.Common.{arith, false, length, none, refl, true, ◌∙◌}
use Rattle.nfa_pikevm_scan.proofs.ClosureLemmas.{KeepsRoom-none, KeepsRoom-then, Paid-falls, Turns-begin, Turns-resumed, Turns-then, within-lower}
use Rattle.nfa_pikevm_scan.proofs.SinkLemmas.{Takes-match, Takes-none, Takes-then}
use Rattle.nfa_pikevm_scan.proofs.closure.epsilon_closure.Goals as goal

pub loop-pattern-init : goal.loop-pattern-init
loop-pattern-init g c =
    record {
      state = c.requires.state;
      inside = omega arith;
      keeps = KeepsRoom-none c.args.reached.now;
      grows = omega arith;
      within = λ k d h. absurd (omega arith);
      width = refl;
      same_reference = refl;
      followed = Turns-begin none;
    }

pub returns-then-take-clause-arrives : goal.returns-then-take-clause-arrives
returns-then-take-clause-arrives g c = record {
  stack = _;
  slots = _;
  gives = Turns-then c.loop-pattern.invariant.followed c.in-Some.ensures.finds
      (λ f m t e. Takes-then t (Takes-match _ true c.if-take.true e c.take.ensures.takes));
  whole = λ never. absurd (cc never);
}

pub returns-in_default-resume-clause-arrives : goal.returns-in_default-resume-clause-arrives
returns-in_default-resume-clause-arrives g c = record {
  stack = _;
  slots = _;
  gives = Turns-resumed c.in_default-resume.ensures.resumes
      (Turns-then c.loop-pattern.invariant.followed c.in-Some.ensures.finds
      (λ f m t e. Takes-then t (Takes-match _ false c.if-take.false e c.take.ensures.takes)));
  whole = λ _. rw (c.in_default-resume.ensures.over refl) refl;
}

pub loop-pattern-smaller : goal.loop-pattern-smaller
loop-pattern-smaller g c = Paid-falls c.in-Some.ensures.finds.paid (omega (arith, c.in-Some.ensures.turns))
    (omega (arith, c.in-Some-resume.ensures.resumes.tried))

pub loop-pattern-preserved : goal.loop-pattern-preserved
loop-pattern-preserved g c =
    record {
      state = c.in-Some-resume.ensures.state (length c.args.here.now.nfa.now.states)
          (rw c.next_match.auto.row c.in-Some.ensures.within);
      inside = omega (arith, c.in-Some-resume.ensures.top, c.in-Some.ensures.top);
      keeps = KeepsRoom-then c.loop-pattern.invariant.keeps c.in-Some.ensures.keeps;
      grows = omega (arith, c.loop-pattern.invariant.grows, c.in-Some.ensures.turns);
      within = rw (c.resume.auto.row, c.next_match.auto.row)
          (within-lower _ _ _ _ _ c.in-Some-resume.ensures.top c.in-Some.ensures.within);
      width = c.take.ensures.width ∙ c.loop-pattern.invariant.width;
      same_reference = c.take.ensures.same_reference ∙ c.loop-pattern.invariant.same_reference;
      followed = Turns-resumed c.in-Some-resume.ensures.resumes
          (Turns-then c.loop-pattern.invariant.followed c.in-Some.ensures.finds
          (λ f m t e. Takes-then t (Takes-match _ false c.if-take.false e c.take.ensures.takes)));
    }

pub returns-clause-arrives : goal.returns-clause-arrives
returns-clause-arrives g c = record {
  stack = _;
  slots = _;
  gives = Turns-then c.loop-pattern.invariant.followed c.in_default.ensures.finds
      (λ f m t e. Takes-then t (Takes-none m c.loop-pattern.sink e));
  whole = λ _. rw (c.in_default.ensures.over refl) refl;
}

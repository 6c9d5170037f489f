-- All that a state leads to without reading a byte is entered in order, up to the next match.
use Rattle.nfa_paths.proofs.Common.{arith, length, length-take, length-take-le}
use Rattle.nfa_pikevm_scan.proofs.ClosureLemmas.{HasRoom-paid, KeepsRoom-none, KeepsRoom-then, NoMatch-append, Paid-falls, Turns-begin, Turns-resumed, Turns-then, within-lower}
use Rattle.nfa_pikevm_scan.proofs.closure.next_match.Goals as goal

pub loop-on-init : goal.loop-on-init
loop-on-init c = grind (arith, KeepsRoom-none, Turns-begin)

pub visit_state-requires-clause-room : goal.visit_state-requires-clause-room
visit_state-requires-clause-room c = grind (arith, HasRoom-paid, length-take, length-take-le)

pub loop-on-smaller-in-On : goal.loop-on-smaller-in-On
loop-on-smaller-in-On c = Paid-falls c.in-On.ensures.enters.paid (omega (arith, c.in-On.ensures.turns))
    (omega arith)

pub loop-on-preserved-in-On : goal.loop-on-preserved-in-On
loop-on-preserved-in-On c =
    record {
      state = c.in-On.ensures.state;
      inside = c.in-On.ensures.top;
      keeps = KeepsRoom-then c.loop-on.invariant.keeps c.in-On.ensures.keeps;
      grows = omega (arith, c.in-On.ensures.turns);
      within = rw c.visit_state.auto.row c.in-On.ensures.within;
      passed = Turns-then c.loop-on.invariant.passed c.in-On.ensures.enters (NoMatch-append _);
    }

pub returns-in-Matched-clause-finds : goal.returns-in-Matched-clause-finds
returns-in-Matched-clause-finds c = grind (arith, Turns-then)

pub loop-on-smaller : goal.loop-on-smaller
loop-on-smaller c = Paid-falls c.in-DeadEnd.ensures.enters.paid (omega (arith, c.visit_state.ensures.turns))
    (omega (arith, c.in-Some.ensures.resumes.tried))

pub loop-on-preserved : goal.loop-on-preserved
loop-on-preserved c =
    record {
      state = c.in-Some.ensures.state (length c.args.here.now.nfa.now.states)
          (rw c.visit_state.auto.row c.visit_state.ensures.within);
      inside = omega (arith, c.in-Some.ensures.top, c.visit_state.ensures.top);
      keeps = KeepsRoom-then c.loop-on.invariant.keeps c.visit_state.ensures.keeps;
      grows = omega (arith, c.visit_state.ensures.turns);
      within = rw (c.resume.auto.row, c.visit_state.auto.row)
          (within-lower _ _ _ _ _ c.in-Some.ensures.top c.visit_state.ensures.within);
      passed = Turns-resumed c.in-Some.ensures.resumes
          (Turns-then c.loop-on.invariant.passed c.in-DeadEnd.ensures.enters (NoMatch-append _));
    }

pub returns-in-None-clause-finds : goal.returns-in-None-clause-finds
returns-in-None-clause-finds c =
    Turns-resumed c.in-None.ensures.resumes
    (Turns-then c.loop-on.invariant.passed c.in-DeadEnd.ensures.enters (NoMatch-append _))

-- Rounds one after another, up to a turn that leads nowhere.
use Rattle.std.proofs.Common.{[], ◌∙◌, arith, refl}
use Rattle.nfa_backtrack.proofs.StepLemmas.{TurnsLead-none, TurnsLead-then, refused-then}
use Rattle.nfa_backtrack.specs.Walk.{walk_of}
use Rattle.nfa_backtrack.proofs.byte_loop.run_byte_loop.Goals as goal

pub loop-union-init : goal.loop-union-init
loop-union-init c = record {
  state = refl;
  turns = omega arith;
  scans = refl;
  size = refl;
  leads = λ slots. TurnsLead-none c.requires.ready.is_place;
}

pub step_byte-requires-clause-place : goal.step_byte-requires-clause-place
step_byte-requires-clause-place c = (c.loop-union.invariant.leads []).goes

pub push_exit-requires-clause-place : goal.push_exit-requires-clause-place
push_exit-requires-clause-place c = (c.in-Some.ensures.leads (walk_of c.loop-union.scratch [])).goes

pub returns-in_err-next-clause-refused : goal.returns-in_err-next-clause-refused
returns-in_err-next-clause-refused c =
    refused-then c.from_residual.result c.push_exit.new.scratch.visited
    (TurnsLead-then (c.loop-union.invariant.leads []) (c.in-Some.ensures.leads (walk_of c.loop-union.scratch [])))
    c.in_err-next.ensures.refused

pub loop-union-smaller : goal.loop-union-smaller
loop-union-smaller c =
    let next = (c.in-Some.ensures.leads (walk_of c.loop-union.scratch [])).goes in
    omega (
      arith,
      next.to,
      c.in-Some.ensures.further c.in-Some.union refl,
      c.in_ok-next.ensures.here c.in-Some-2.next c.in-Some-2.is,
    )

pub returns-in_default-clause-leads : goal.returns-in_default-clause-leads
returns-in_default-clause-leads c = λ slots.
    TurnsLead-then (c.loop-union.invariant.leads slots)
    (c.in_default.ensures.leads (walk_of c.loop-union.scratch slots))

pub returns-in_default-2-clause-leads : goal.returns-in_default-2-clause-leads
returns-in_default-2-clause-leads c = λ slots.
    TurnsLead-then
    (TurnsLead-then (c.loop-union.invariant.leads slots) (c.in-Some.ensures.leads (walk_of c.loop-union.scratch slots)))
    ((rw c.in_default-2.is at c.in_ok-next.ensures.leads) slots)

pub loop-union-preserved : goal.loop-union-preserved
loop-union-preserved c = record {
  state = c.in_ok-next.ensures.state c.in-Some-2.next c.in-Some-2.is;
  turns = omega (arith, c.loop-union.invariant.turns, c.step_byte.ensures.turns, c.push_exit.ensures.turns);
  scans = c.push_exit.ensures.scans ∙ c.loop-union.invariant.scans;
  size = c.push_exit.ensures.size ∙ c.step_byte.ensures.size ∙ c.loop-union.invariant.size;
  leads = λ slots.
      TurnsLead-then
      (TurnsLead-then (c.loop-union.invariant.leads slots)
      (c.in-Some.ensures.leads (walk_of c.loop-union.scratch slots)))
      ((rw c.in-Some-2.is at c.in_ok-next.ensures.leads) slots);
}

-- A walk that goes on turn by turn ends at its answer, within its turns.
use Rattle.nfa_paths.proofs.Common.{◌∙◌, arith, refl, search_of}
use Rattle.nfa_paths.proofs.TurnLemmas.{marked_sum-le}
use Rattle.nfa_backtrack.specs.Walk.{weights}
use Rattle.nfa_backtrack.proofs.StepLemmas.{PaidFor-bounded, PaidFor-then, TurnsLead-none, TurnsLead-then}
use Rattle.nfa_backtrack.proofs.WalkLemmas.{EndsAt-along}
use Rattle.nfa_backtrack.proofs.walk.walk_on.Goals as goal

pub loop-next-init : goal.loop-next-init
loop-next-init c = record {
  scans = refl;
  size = refl;
  leads = TurnsLead-none c.requires.ready.is_place;
}

pub returns-in_err-next-clause-bounded : goal.returns-in_err-next-clause-bounded
returns-in_err-next-clause-bounded c =
    let empty = c.requires.ready.empty in
    omega (arith, rw empty at c.loop-next.invariant.leads.paid.tried, c.in_err-next.ensures.refused)

pub loop-next-smaller : goal.loop-next-smaller
loop-next-smaller c =
    let advances = rw c.in-On.is at c.in_ok-next.ensures.advances in
    omega (
      arith,
      advances.paid.tried,
      c.advance.ensures.turns,
      marked_sum-le (weights c.args.nfa.now (search_of c.args.input.now))
          c.advance.new.scratch.visited.bits,
    )

pub loop-next-preserved : goal.loop-next-preserved
loop-next-preserved c = record {
  scans = c.advance.ensures.scans ∙ c.loop-next.invariant.scans;
  size = c.advance.ensures.size ∙ c.loop-next.invariant.size;
  leads = TurnsLead-then c.loop-next.invariant.leads (rw c.in-On.is at c.in_ok-next.ensures.advances);
}

pub returns-in-Matched-clause-bounded : goal.returns-in-Matched-clause-bounded
returns-in-Matched-clause-bounded c =
    let advances = rw c.in-Matched.is at c.in_ok-next.ensures.advances in
    PaidFor-bounded c.requires.ready.empty (PaidFor-then c.loop-next.invariant.leads.paid advances.0)

pub returns-in-Matched-clause-walks : goal.returns-in-Matched-clause-walks
returns-in-Matched-clause-walks c =
    let leads = c.loop-next.invariant.leads in
    let advances = rw c.in-Matched.is at c.in_ok-next.ensures.advances in
    (PaidFor-then leads.paid advances.0, λ work. EndsAt-along (leads.follows work) (advances.1 work))

pub returns-in-Failed-clause-bounded : goal.returns-in-Failed-clause-bounded
returns-in-Failed-clause-bounded c =
    let advances = rw c.in-Failed.is at c.in_ok-next.ensures.advances in
    PaidFor-bounded c.requires.ready.empty (PaidFor-then c.loop-next.invariant.leads.paid advances.1.paid)

pub returns-in-Failed-clause-walks : goal.returns-in-Failed-clause-walks
returns-in-Failed-clause-walks c =
    let advances = rw c.in-Failed.is at c.in_ok-next.ensures.advances in
    (advances.0, TurnsLead-then c.loop-next.invariant.leads advances.1)

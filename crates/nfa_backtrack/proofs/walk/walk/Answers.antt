-- A walk is its first turn and the rest.
use Rattle.nfa_paths.proofs.Common.{◌++◌, arith, search_of}
use Rattle.nfa_paths.proofs.TurnLemmas.{marked_sum-le}
use Rattle.nfa_backtrack.specs.Walk.{start_tasks, walk_of, weights}
use Rattle.nfa_backtrack.proofs.WalkLemmas.{Carries-then, EndsAt-along}
use Rattle.nfa_backtrack.proofs.walk.walk.Goals as goal

pub returns-in-None-clause-bounded : goal.returns-in-None-clause-bounded
returns-in-None-clause-bounded c =
    let fails = rw c.in-None.is at c.begin.ensures.begins in
    omega (
      arith,
      fails.spent,
      marked_sum-le (weights c.args.nfa.now (search_of c.args.input.now))
          c.begin.new.visited.bits,
    )

pub returns-in-Some-2-clause-walks : goal.returns-in-Some-2-clause-walks
returns-in-Some-2-clause-walks c = λ work.
    let goes = rw c.in-Some.is at c.begin.ensures.begins in
    let walks = rw (c.in-Some-2.is, c.requires.empty) at c.in_ok-half-in-Some.ensures.walks in
    let end = EndsAt-along {a = walk_of c.args.scratch.now c.args.slots.now} (goes.follows work)
    (walks.1 (goes.restores ++ work)) in
    record { state = end.state; matches = end.matches; ends = end.ends }

pub returns-in-None-2-clause-walks : goal.returns-in-None-2-clause-walks
returns-in-None-2-clause-walks c =
    let goes = rw c.in-Some.is at c.begin.ensures.begins in
    let fails = rw (c.in-None-2.is, c.requires.empty) at c.in_ok-half-in-Some.ensures.walks in
    record {
      empty = fails.0;
      follows = λ at count.
          let rest = start_tasks c.args.start.sid at count in
          Carries-then
          (Carries-then (goes.follows rest) (rw fails.0 at (fails.1.follows (goes.restores ++ rest))))
          (goes.needless c.walk_on.new.scratch.visited c.walk_on.new.slots at count);
      spent = omega (arith, goes.spent, rw fails.0 at fails.1.paid.tried);
    }

-- The states of a position are followed in order, up to the match that ends it.
use Rattle.nfa_pikevm_scan.proofs.Common.{arith, length, refl, ◌*◌, ◌+◌, ◌-◌, ◌∙◌, ◌≡◌}
use Rattle.nfa_pikevm_scan.proofs.ClosureLemmas.{KeepsRoom-none, KeepsRoom-then}
use Rattle.nfa_pikevm_scan.proofs.NextsLemmas.{Closures-begin, Closures-next, HasRoom-next, items-next, items-over, row-long, rows-behind}
use Rattle.nfa_pikevm_scan.proofs.nexts.nexts_of_states.Goals as goal

pub loop-sid-init : goal.loop-sid-init
loop-sid-init g c = record {
  start = omega arith;
  keeps = KeepsRoom-none c.args.reached.now;
  grows = omega arith;
  behind = refl;
  width = refl;
  same_reference = refl;
  crosses = Closures-begin c.requires.ready.empty c.requires.ready.clear;
}

pub epsilon_closure-requires-clause-room : goal.epsilon_closure-requires-clause-room
epsilon_closure-requires-clause-room g c = grind (arith, HasRoom-next)

pub epsilon_closure-requires-clause-width : goal.epsilon_closure-requires-clause-width
epsilon_closure-requires-clause-width g c = grind (arith, row-long)

pub epsilon_closure-requires-clause-takes : goal.epsilon_closure-requires-clause-takes
epsilon_closure-requires-clause-takes g c = grind (arith, row-long)

pub loop-sid-preserved : goal.loop-sid-preserved
loop-sid-preserved g c =
    let width = c.width-width.result in
    let i = c.loop-sid.sid-index in
    let wide : i * width + width - i * width ≡ width = omega arith in
    let items = items-next width i _ c.args.kept.now c.args.rows.now c.loop-sid.rows c.sid-item.result
    c.loop-sid-test.true c.sid-item.is wide c.loop-sid.invariant.behind in
    record {
      start = omega (arith, c.loop-sid.invariant.start);
      keeps = KeepsRoom-then c.loop-sid.invariant.keeps c.epsilon_closure.ensures.keeps;
      grows = omega (arith, c.epsilon_closure.ensures.grows);
      behind = rw c.loop-sid.invariant.start (rows-behind width i (length c.args.kept.now) _ c.args.rows.now
          c.loop-sid.rows c.epsilon_closure.new.row
          c.loop-sid-test.true (rw c.width-width.ensures c.requires.rows) c.loop-sid.auto.rows wide
          (rw c.loop-sid.invariant.start at c.epsilon_closure.auto.row)
          c.loop-sid.invariant.behind);
      width = c.epsilon_closure.ensures.width ∙ c.loop-sid.invariant.width;
      same_reference = c.epsilon_closure.ensures.same_reference ∙ c.loop-sid.invariant.same_reference;
      crosses = Closures-next items c.loop-sid.invariant.crosses
          (rw (c.loop-sid.invariant.start, c.if-epsilon_closure.false) at c.epsilon_closure.ensures.arrives);
    }

pub returns-then-epsilon_closure-clause-arrive : goal.returns-then-epsilon_closure-clause-arrive
returns-then-epsilon_closure-clause-arrive g c =
    let width = c.width-width.result in
    let i = c.loop-sid.sid-index in
    let wide : i * width + width - i * width ≡ width = omega arith in
    let items = items-next width i _ c.args.kept.now c.args.rows.now c.loop-sid.rows c.sid-item.result
    c.loop-sid-test.true c.sid-item.is wide c.loop-sid.invariant.behind in
    rw (← c.width-width.ensures)
    (record {
      ended = c.epsilon_closure.result;
      left = _;
      leads = Closures-next items c.loop-sid.invariant.crosses
          (rw c.loop-sid.invariant.start at c.epsilon_closure.ensures.arrives);
      whole = λ on. absurd (cc (c.if-epsilon_closure.true, on));
    })

pub returns-clause-arrive : goal.returns-clause-arrive
returns-clause-arrive g c = grind (arith, items-over)

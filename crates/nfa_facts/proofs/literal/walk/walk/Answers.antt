-- All states that were reached are passed.
use Rattle.nfa_paths.proofs.Common.{◌≡◌, ◌∙◌, ◌<◌, ◌≤◌, length, arith, get_or, get_or_from_slice_get}
use Rattle.nfa_facts.proofs.ReachedLemmas.{length-added}
use Rattle.nfa_facts.proofs.WalkLemmas.{under-way-step, walked-of}
use Rattle.nfa_facts.proofs.literal.walk.walk.Goals as goal

pub returns-then-done-len-clause-walked : goal.returns-then-done-len-clause-walked
returns-then-done-len-clause-walked c =
    walked-of c.args.nfa.now c.args.cut.now c.loop-done.on_line c.loop-done.done c.loop-done.reached.states
    (omega (arith, c.if-done-len.true, c.len.ensures)) c.loop-done.invariant.under_way

pub loop-done-preserved : goal.loop-done-preserved
loop-done-preserved c =
    let done = c.loop-done.done in
    let old = c.loop-done.reached.states in
    let new = c.pass.new.reached.states in
    let adds = c.in_ok-still.ensures.adds in
    let inside : done < length old =
    omega (arith, c.if-done-len.false, c.len.ensures, c.loop-done.invariant.inside) in
    let is : get_or old done 0 ≡ c.state-state.result =
    get_or_from_slice_get old done c.state-state.result 0 c.state-state.ensures.value in
    let more : length old ≤ length new = length-added adds in
    record {
      room = c.in_ok-still.ensures.room ∙ c.loop-done.invariant.room;
      inside = omega (arith, inside, more);
      under_way = under-way-step c.args.nfa.now c.args.cut.now c.loop-done.on_line c.in-Some.still done old new
          c.state-state.result inside is c.loop-done.invariant.under_way adds
          (rw c.in-Some.is at c.in_ok-still.ensures.before)
          (rw c.in-Some.is at c.in_ok-still.ensures.passed);
    }

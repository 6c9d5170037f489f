-- All states that were reached were followed.
use Rattle.nfa_paths.proofs.Common.{◌≡◌, ◌∙◌, ◌<◌, ◌≤◌, length, arith, get_or, get_or_from_slice_get}
use Rattle.nfa_facts.proofs.LevelLemmas.{filled-all, filled-step}
use Rattle.nfa_facts.proofs.ReachedLemmas.{AddsTo-then, length-added}
use Rattle.nfa_facts.proofs.literal.level.fill.Goals as goal

pub loop-done-preserved : goal.loop-done-preserved
loop-done-preserved c =
    let done = c.loop-done.done in
    let old = c.loop-done.here.states in
    let new = c.follow.new.here.states in
    let before = c.loop-done.invariant in
    let after = c.in_ok-is_plain.ensures in
    let inside : done < length old = omega (arith, c.if-done-len.false, c.len.ensures, before.inside) in
    let is : get_or old done 0 ≡ c.state-state.result =
    get_or_from_slice_get old done c.state-state.result 0 c.state-state.ensures.value in
    let more : length old ≤ length new = length-added after.here_adds in
    record {
      here_room = after.here_room ∙ before.here_room;
      next_room = after.next_room ∙ before.next_room;
      inside = omega (arith, inside, more);
      adds = AddsTo-then before.adds after.here_adds;
      filled = filled-step c.args.nfa.now old new c.loop-done.next.states c.follow.new.next.states c.loop-done.level
          c.follow.new.level done c.state-state.result inside is after.here_adds after.next_adds after.grows
          before.filled (after.filled c.if-not-is_plain.false);
    }

pub returns-then-done-len-clause-filled : goal.returns-then-done-len-clause-filled
returns-then-done-len-clause-filled c = λ yes.
    filled-all c.args.nfa.now c.loop-done.here.states c.loop-done.next.states c.loop-done.level c.loop-done.done
    (omega (arith, c.if-done-len.true, c.len.ensures)) c.loop-done.invariant.filled

-- The result of the search from all starts, and the most turns that it takes.
use Rattle.nfa_paths.proofs.Common.{◌≡◌, ◌∙◌, ◌+◌, ◌-◌, ◌<◌, ◌≤◌, length, replicate, map, arith, sym, ap, refl, None, search_of, pairs_from, Explore}
use Rattle.nfa_paths.proofs.StartLemmas.{pairs_from-step, pairs_from-end, starts-none as starts-over}
use Rattle.nfa_backtrack.specs.Walk.{walk_of}
use Rattle.nfa_backtrack.proofs.PassLemmas.{Carries-first, Carries-pass, no-path, starts-none, starts-some, turns-tried, turns-walked}
use Rattle.nfa_backtrack.proofs.WalkLemmas.{Carries-then, Carries-ends, Ends-none, EndsAt-along}
use Rattle.nfa_backtrack.proofs.scan.try_starts.Goals as goal

pub returns-in-Some-2-clause-answer : goal.returns-in-Some-2-clause-answer
returns-in-Some-2-clause-answer c =
    let here : c.loop-at.at < c.start_limit-limit.result = c.loop-at-test.true in
    let follows = rw (pairs_from-step c.in-Some.sid here) at c.loop-at.invariant.follows in
    let walks = rw (c.in-Some-2.is, c.state_pos_at-place.ensures.pair) at c.in_ok-half.ensures.walks in
    let rest = map Explore (pairs_from c.in-Some.sid (c.loop-at.at + 1)
    (c.start_limit-limit.result - (c.loop-at.at + 1))) in
    let size : length c.walk.new.slots ≡ length c.args.slots.now = c.walk.auto.slots ∙ c.loop-at.auto.slots in
    let unset : c.args.slots.now ≡ replicate (length c.walk.new.slots) None = c.requires.ready.unset ∙ ap
    (λ n. replicate n None) (sym size) in
    starts-some c.args.nfa.now (search_of c.args.input.now) (walk_of c.args.scratch.now c.args.slots.now)
    c.requires.ready.clear c.in-Some-2.half (walk_of c.walk.new.scratch c.walk.new.slots) unset
    (EndsAt-along follows (walks rest))

pub loop-at-init : goal.loop-at-init
loop-at-init c =
    let known = sym c.in-Some.ensures.value in
    let start : c.start.result ≡ (search_of c.args.input.now).start = c.start.ensures in
    let low : (search_of c.args.input.now).start
    ≤ c.next_start-at.result = omega (arith, c.next_start-at.ensures.low) in
    record {
      follows = Carries-first c.args.nfa.now (search_of c.args.input.now) c.args.first.now.may_begin
          c.requires.ready.first
          c.args.scratch.now.visited c.args.slots.now
          c.in-Some.sid c.skip_limit-stop.result c.next_start-at.result c.start_limit-limit.result low
          (λ past. c.next_start-at.ensures.stays (omega arith) ∙ start) c.skip_limit-stop.ensures.anchored known
          (λ k l h. c.next_start-at.ensures.passed k (omega arith) h)
          (c.start_limit-limit.ensures.starts c.in-Some.sid known);
      low = low;
      high = c.next_start-at.ensures.high;
      due = λ below. c.next_start-at.ensures.least (omega arith);
      scans = refl;
      size = refl;
      empty = c.requires.ready.empty;
      tried = omega arith;
    }

pub loop-at-preserved : goal.loop-at-preserved
loop-at-preserved c =
    let here : c.loop-at.at < c.start_limit-limit.result = c.loop-at-test.true in
    let follows = rw (pairs_from-step c.in-Some.sid here) at c.loop-at.invariant.follows in
    let fails = rw (c.in_default-2.is, c.state_pos_at-place.ensures.pair) at c.in_ok-half.ensures.walks in
    let walked = Carries-then follows
    (fails.follows (c.loop-at.at + 1) (c.start_limit-limit.result - (c.loop-at.at + 1))) in
    let next = c.next_start-at-in-loop-at.ensures in
    record {
      follows = Carries-then walked
          (Carries-pass c.args.nfa.now (search_of c.args.input.now) c.args.first.now.may_begin c.requires.ready.first
          c.walk.new.scratch.visited c.walk.new.slots
          c.in-Some.sid (c.loop-at.at + 1) c.skip_limit-stop.result c.next_start-at-in-loop-at.result
          c.start_limit-limit.result
          (omega (arith, c.loop-at.invariant.low)) next.low (λ past. next.stays (omega arith))
          c.skip_limit-stop.ensures.anchored
          (sym c.in-Some.ensures.value) next.passed);
      low = omega (arith, c.loop-at.invariant.low, c.next_start-at-in-loop-at.ensures.low);
      high = next.high;
      due = λ below. next.least (omega arith);
      scans = c.walk.ensures.scans ∙ c.loop-at.invariant.scans;
      size = c.walk.ensures.size ∙ c.loop-at.invariant.size;
      empty = fails.empty;
      tried = omega (arith, c.loop-at.invariant.tried, fails.spent, c.next_start-at-in-loop-at.ensures.low);
    }

pub returns-clause-answer : goal.returns-clause-answer
returns-clause-answer c =
    let over : c.start_limit-limit.result ≤ c.loop-at.at = c.loop-at-test.false in
    let follows = rw (pairs_from-end c.in-Some.sid over) at c.loop-at.invariant.follows in
    starts-none c.args.nfa.now (search_of c.args.input.now) (walk_of c.args.scratch.now c.args.slots.now)
    c.requires.ready.clear c.loop-at.scratch.visited.turns
    (Carries-ends follows
    (Ends-none c.args.nfa.now (search_of c.args.input.now) c.loop-at.scratch.visited c.loop-at.slots))

pub returns-then-is_done-clause-turns : goal.returns-then-is_done-clause-turns
returns-then-is_done-clause-turns c = omega arith

pub returns-in_default-clause-turns : goal.returns-in_default-clause-turns
returns-in_default-clause-turns c = omega arith

pub returns-in_err-half-clause-turns : goal.returns-in_err-half-clause-turns
returns-in_err-half-clause-turns c =
    turns-walked c.args.nfa.now (search_of c.args.input.now) c.args.scratch.now.visited.turns
    c.loop-at.scratch.visited.turns c.walk.new.scratch.visited.turns c.loop-at.at c.loop-at.scratch.visited.bits
    c.walk.ensures.bounded c.loop-at.invariant.tried c.loop-at.invariant.low
    (omega (arith, c.loop-at-test.true, c.start_limit-limit.ensures.high))

pub returns-in-Some-2-clause-turns : goal.returns-in-Some-2-clause-turns
returns-in-Some-2-clause-turns c =
    turns-walked c.args.nfa.now (search_of c.args.input.now) c.args.scratch.now.visited.turns
    c.loop-at.scratch.visited.turns c.walk.new.scratch.visited.turns c.loop-at.at c.loop-at.scratch.visited.bits
    c.walk.ensures.bounded c.loop-at.invariant.tried c.loop-at.invariant.low
    (omega (arith, c.loop-at-test.true, c.start_limit-limit.ensures.high))

pub returns-clause-turns : goal.returns-clause-turns
returns-clause-turns c =
    turns-tried c.args.nfa.now (search_of c.args.input.now) c.args.scratch.now.visited.turns
    c.loop-at.scratch.visited.turns c.loop-at.at c.loop-at.scratch.visited.bits c.loop-at.invariant.tried
    c.loop-at.invariant.low c.loop-at.invariant.high

pub returns-then-is_done-clause-answer : goal.returns-then-is_done-clause-answer
returns-then-is_done-clause-answer c =
    let x = search_of c.args.input.now in
    no-path c.args.nfa.now x (starts-over c.args.nfa.now x (c.is_done.ensures.0 c.if-is_done.true))

pub returns-in_default-clause-answer : goal.returns-in_default-clause-answer
returns-in_default-clause-answer c =
    no-path c.args.nfa.now (search_of c.args.input.now) (rw (sym c.start_state.ensures.value ∙ c.in_default.is) refl)

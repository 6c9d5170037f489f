-- A position with a byte that no match begins with is skipped.
use Rattle.std.proofs.Common.{◌<◌, ◌≤◌, length, get_or, arith}
use Rattle.nfa_engines.specs.Search.{search_of}
use Rattle.nfa_paths.proofs.StartLemmas.{byte_at-inside}
use Rattle.callers.proofs.places.first_candidate.Goals as goal

pub loop-at-preserved : goal.loop-at-preserved
loop-at-preserved c =
    let x = search_of c.args.input.now in
    let fits : c.args.input.now.span.end ≤ length c.args.input.now.haystack.now = omega arith in
    let inside : c.loop-at.at < c.args.input.now.span.end =
    omega (arith, c.loop-at-test.true, c.end.ensures.value)
    in
    let byte = get_or c.args.input.now.haystack.now c.loop-at.at 0 in
    let none = rw c.haystack-haystack.ensures at (c.may_begin.ensures.nothing c.if-not-may_begin.true) in
    record {
      first =
          c.bytes_may_be_skipped.ensures.moves c.args.vm.now.nfa x c.loop-at.at byte c.loop-at.invariant.first
          (byte_at-inside x c.loop-at.at inside fits) none;
      within = omega arith;
    }

-- The first position that is not skipped.
use Rattle.nfa_paths.proofs.Common.{◌≡◌, ◌≤◌, ◌<◌, length, get_or, arith, inl, inr, cases_lt, search_of}
use Rattle.nfa_scan_core.specs.FirstBytes.{IsRefused}
use Rattle.nfa_paths.proofs.StartLemmas.{byte_at-inside}
use Rattle.nfa_scan_core.proofs.starts.next_start.Goals as goal

pub loop-at-preserved : goal.loop-at-preserved
loop-at-preserved c =
    let fits : c.args.input.now.span.end ≤ length c.args.input.now.haystack.now = omega arith in
    let inside : c.loop-at.at < c.args.input.now.span.end = omega (arith, c.loop-at-test.true, c.requires.stop) in
    let here : IsRefused c.args.first.now.may_begin (search_of c.args.input.now) c.loop-at.at = record {
      byte = get_or c.args.input.now.haystack.now c.loop-at.at 0;
      read = byte_at-inside (search_of c.args.input.now) c.loop-at.at inside fits;
      refused = rw c.haystack-haystack.ensures at (c.refuses.ensures.refused c.if-refuses.true);
    } in
    record {
      low = omega arith;
      high = omega arith;
      near = λ le. omega (arith, c.loop-at-test.true);
      stays = λ past. absurd (omega arith);
      passed = λ k l h.
          elim (cases_lt k c.loop-at.at) [
            | inl less ↦ c.loop-at.invariant.passed k l less
            | inr behind ↦ let same : k ≡ c.loop-at.at = omega arith in rw same here
          ];
    }

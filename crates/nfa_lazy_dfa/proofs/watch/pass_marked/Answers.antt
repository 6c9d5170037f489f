-- A marked row is idle, and over other cells the scan goes on.
use Rattle.nfa_paths.proofs.Common.{◌≡◌, ◌%◌, arith, search_of}
use Rattle.nfa_lazy_dfa.proofs.WatchLemmas.{IsBegun-idle}
use Rattle.nfa_lazy_dfa.proofs.watch.pass_marked.Goals as goal

pub loop-at-preserved : goal.loop-at-preserved
loop-at-preserved c =
    let dfa = c.args.dfa.now in
    let cell = c.pass_plain-next.result.2 in
    let to = c.past_idle-at.result in
    let there = c.past_idle-at.ensures.at in
    let whole : cell % 0x2000_0000 % 256 ≡ 0 = omega (arith, c.pass_plain-next.ensures.next (omega arith)) in
    record {
      whole = whole;
      at = there;
      begun = IsBegun-idle dfa c.args.cache.now (search_of c.args.input.now) to (cell % 0x2000_0000) there whole
          (c.pass_plain-next.ensures.idle c.pass_plain-next.ensures.marked (omega arith))
          (dfa.apart_is c.requires.apart);
      low = omega arith;
      high = there.at.high;
    }

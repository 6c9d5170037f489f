-- The steps are counted up to where the scan may end.
use Rattle.nfa_paths.proofs.Common.{◌≤◌, inl, arith, on_ok_weaker, search_of}
use Rattle.nfa_lazy_dfa.specs.Reads.{IsOver}
use Rattle.nfa_lazy_dfa.proofs.ReadLemmas.{HasRead-more}
use Rattle.nfa_lazy_dfa.proofs.scan.scan_rest.Goals as goal

pub returns-in-Some-clause-reads : goal.returns-in-Some-clause-reads
returns-in-Some-clause-reads c =
    let low : c.args.from.at ≤ c.walk-place.result.at = c.walk-place.ensures.low in
    record {
      to = c.walk-place.result.at;
      low = low;
      over = inl c.in-Some.ensures.over;
      steps = omega (arith, c.walk-place.ensures.counts, c.count_steps.ensures.counts);
    }

pub returns-clause-reads : goal.returns-clause-reads
returns-clause-reads c =
    let mid = c.walk-place.result.at in
    let low : c.args.from.at ≤ mid = c.walk-place.ensures.low in
    on_ok_weaker c.scan_on.result
    (HasRead-more (IsOver c.args.dfa.now (search_of c.args.input.now)) c.args.cache.now c.walk-place.new.cache
    c.scan_on.new.cache c.args.from.at mid low (omega (arith, c.walk-place.ensures.counts))) c.scan_on.ensures.reads

-- The steps are counted up to where the scan is over, or goes on.
use Rattle.nfa_paths.proofs.Common.{◌+◌, ◌-◌, ◌≤◌, inr, arith, on_ok_weaker, search_of}
use Rattle.nfa_lazy_dfa.specs.Reads.{IsOver}
use Rattle.nfa_lazy_dfa.proofs.ReadLemmas.{HasRead-more}
use Rattle.nfa_lazy_dfa.proofs.RunLemmas.{IsFoundAt-same}
use Rattle.nfa_lazy_dfa.proofs.ScanLemmas.{next-on, next-over}
use Rattle.nfa_lazy_dfa.proofs.WorkLemmas.{Spends-both, Spends-up}
use Rattle.nfa_lazy_dfa.proofs.scan.scan_from.Goals as goal

pub returns-then-over-clause-steps : goal.returns-then-over-clause-steps
returns-then-over-clause-steps c =
    next-over c.args.dfa.now (search_of c.args.input.now) c.args.cache.now c.over_known-over.result.0
    c.over_known-over.result.1 c.over_known-over.ensures.next c.if-over.true

pub returns-then-over-clause-reads : goal.returns-then-over-clause-reads
returns-then-over-clause-reads c =
    let to = c.over_known-over.result.0.at in
    let low : c.args.from.at ≤ to = c.over_known-over.ensures.low in
    record {
      to = to;
      low = low;
      over = inr (c.over_known-over.ensures.next.settled c.if-over.true);
      steps = omega (arith, c.count_steps.ensures.counts);
    }

pub scan_rest-requires-clause-at : goal.scan_rest-requires-clause-at
scan_rest-requires-clause-at c =
    let x = search_of c.args.input.now in
    IsFoundAt-same c.args.dfa.now x c.over_known-over.result.0 c.args.cache.now c.count_steps.new.self
    c.count_steps.ensures.same
    (next-on c.args.dfa.now x c.args.cache.now c.over_known-over.result.0 c.over_known-over.result.1
    c.over_known-over.ensures.next
    c.if-over.false)

pub returns-clause-reads : goal.returns-clause-reads
returns-clause-reads c =
    let mid = c.over_known-over.result.0.at in
    let low : c.args.from.at ≤ mid = c.over_known-over.ensures.low in
    on_ok_weaker c.scan_rest.result
    (HasRead-more (IsOver c.args.dfa.now (search_of c.args.input.now)) c.args.cache.now c.count_steps.new.self
    c.scan_rest.new.cache c.args.from.at mid low (omega (arith, c.count_steps.ensures.counts)))
    c.scan_rest.ensures.reads

pub returns-then-over-clause-spends : goal.returns-then-over-clause-spends
returns-then-over-clause-spends c =
    let x = search_of c.args.input.now in
    let to = c.over_known-over.result.0.at in
    let high : to ≤ x.end = c.over_known-over.ensures.next.at.high in
    Spends-up c.args.cache.now c.count_steps.new.self (to - c.args.from.at) ((x.end - c.args.from.at) + 1) 0
    (omega arith) c.count_steps.ensures.spends

pub returns-clause-spends : goal.returns-clause-spends
returns-clause-spends c =
    let x = search_of c.args.input.now in
    let to = c.over_known-over.result.0.at in
    let low : c.args.from.at ≤ to = c.over_known-over.ensures.low in
    let high : to ≤ x.end = c.over_known-over.ensures.next.at.high in
    let s = to - c.args.from.at in
    let t = (x.end - to) + 1 in
    Spends-up c.args.cache.now c.scan_rest.new.cache (s + t) ((x.end - c.args.from.at) + 1) 0 (omega arith)
    (Spends-both c.args.cache.now c.count_steps.new.self c.scan_rest.new.cache s t 0 0 c.count_steps.ensures.spends
    c.scan_rest.ensures.spends)

-- No match may start, or the scan is at its first position.
use Rattle.nfa_paths.proofs.Common.{◌+◌, ◌-◌, arith, on_ok_weaker, search_of}
use Rattle.nfa_lazy_dfa.specs.Places.{IsFirstAt}
use Rattle.nfa_lazy_dfa.specs.Reads.{IsOver}
use Rattle.nfa_lazy_dfa.proofs.ReadLemmas.{HasRead-more, HasRead-none, IsOver-none}
use Rattle.nfa_lazy_dfa.proofs.ScanLemmas.{no-starts}
use Rattle.nfa_lazy_dfa.proofs.WorkLemmas.{Scans-rest}
use Rattle.nfa_lazy_dfa.proofs.scan.scan_half.Goals as goal

pub returns-in_default-clause-steps : goal.returns-in_default-clause-steps
returns-in_default-clause-steps c =
    no-starts c.args.dfa.now (search_of c.args.input.now) (rw c.in_default.is at c.in_ok-first.ensures.none)

pub returns-in_default-clause-reads : goal.returns-in_default-clause-reads
returns-in_default-clause-reads c =
    let x = search_of c.args.input.now in
    HasRead-none (IsOver c.args.dfa.now x) c.args.cache.now c.begin.new.cache x.start
    (IsOver-none c.args.dfa.now x (rw c.in_default.is at c.in_ok-first.ensures.none))
    (omega (arith, c.in_ok-first.ensures.same))

pub scan_from-requires-clause-at : goal.scan_from-requires-clause-at
scan_from-requires-clause-at c =
    let begun : IsFirstAt c.args.dfa.now c.begin.new.cache (search_of c.args.input.now) c.in-Some.first =
    rw c.in-Some.is at c.in_ok-first.ensures.at in
    begun.at

pub returns-clause-scan : goal.returns-clause-scan
returns-clause-scan c =
    let x = search_of c.args.input.now in
    let begun : IsFirstAt c.args.dfa.now c.begin.new.cache x c.in-Some.first =
    rw c.in-Some.is at c.in_ok-first.ensures.at in
    Scans-rest c.args.cache.now c.begin.new.cache c.scan_from.new.cache ((x.end - c.in-Some.first.place.at) + 1)
    (x.end - x.start) c.in_ok-first.ensures.scan c.in_ok-first.ensures.same c.scan_from.ensures.spends
    (omega (arith, begun.begins))

pub returns-clause-reads : goal.returns-clause-reads
returns-clause-reads c =
    let x = search_of c.args.input.now in
    let begun : IsFirstAt c.args.dfa.now c.begin.new.cache x c.in-Some.first =
    rw c.in-Some.is at c.in_ok-first.ensures.at in
    on_ok_weaker c.scan_from.result
    (HasRead-more (IsOver c.args.dfa.now x) c.args.cache.now c.begin.new.cache c.scan_from.new.cache x.start
    c.in-Some.first.place.at (omega (arith, begun.begins)) (omega (arith, begun.begins, c.in_ok-first.ensures.same)))
    c.scan_from.ensures.reads

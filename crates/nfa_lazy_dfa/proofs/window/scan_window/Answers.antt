-- No match may start, or the scan is at its first position.
use Rattle.nfa_paths.proofs.Common.{◌≡◌, ◌∙◌, ◌+◌, ◌-◌, arith, on_ok_weaker, search_of}
use Rattle.nfa_lazy_dfa.specs.Places.{IsFirstAt}
use Rattle.nfa_lazy_dfa.specs.Reads.{IsOver}
use Rattle.nfa_lazy_dfa.proofs.ReadLemmas.{HasRead-more, HasRead-none, IsOver-none}
use Rattle.nfa_lazy_dfa.proofs.ScanLemmas.{no-starts}
use Rattle.nfa_lazy_dfa.proofs.WorkLemmas.{Scans-rest}
use Rattle.nfa_lazy_dfa.proofs.window.scan_window.Goals as goal
use Rattle.nfa_lazy_dfa.proofs.window.scan_window.Goals.{After-first_watch-from}

pub returns-in_default-clause-half : goal.returns-in_default-clause-half
returns-in_default-clause-half c =
    no-starts c.args.dfa.now (search_of c.args.input.now) (rw c.in_default.is at c.in_ok-begun.ensures.none)

pub returns-in_default-clause-reads : goal.returns-in_default-clause-reads
returns-in_default-clause-reads c =
    let dfa = c.args.dfa.now in
    let x = search_of c.args.input.now in
    let none = rw c.in_default.is at c.in_ok-begun.ensures.none in
    HasRead-none (IsOver dfa x) c.args.cache.now c.begin.new.cache x.start (IsOver-none dfa x none)
    (omega (arith, c.in_ok-begun.ensures.same))

pub first_watch-from-requires-clause-at : goal.first_watch-from-requires-clause-at
first_watch-from-requires-clause-at c = rw c.in-Some.is at c.in_ok-begun.ensures.at

-- the watch is at the start of the span
at-start : (c : After-first_watch-from) → c.first_watch-from.result.at ≡ (search_of c.args.input.now).start
at-start c =
    let begun : IsFirstAt c.args.dfa.now c.begin.new.cache (search_of c.args.input.now) c.in-Some.begun =
    rw c.in-Some.is at c.in_ok-begun.ensures.at in
    c.first_watch-from.ensures.at ∙ begun.begins

pub returns-clause-scan : goal.returns-clause-scan
returns-clause-scan c =
    let x = search_of c.args.input.now in
    let start = at-start (goal.at.returns-clause-scan c).After-first_watch-from in
    Scans-rest c.args.cache.now c.begin.new.cache c.window_from.new.cache
    ((x.end - c.first_watch-from.result.at) + 1) (x.end - x.start) c.in_ok-begun.ensures.scan
    c.in_ok-begun.ensures.same c.window_from.ensures.spends (omega (arith, start))

pub returns-clause-reads : goal.returns-clause-reads
returns-clause-reads c =
    let x = search_of c.args.input.now in
    let start = at-start (goal.at.returns-clause-reads c).After-first_watch-from in
    on_ok_weaker c.window_from.result
    (HasRead-more (IsOver c.args.dfa.now x) c.args.cache.now c.begin.new.cache c.window_from.new.cache x.start
    c.first_watch-from.result.at (omega (arith, start)) (omega (arith, start, c.in_ok-begun.ensures.same)))
    c.window_from.ensures.reads

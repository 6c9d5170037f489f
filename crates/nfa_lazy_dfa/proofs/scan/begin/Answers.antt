-- No match may start, or the scan is at its first position.
use Rattle.nfa_paths.proofs.Common.{◌<◌, ◌∙◌, ◌-◌, ap, lt-ltb, refl, rules, sym, arith, is_some, search_of}
use Rattle.nfa_lazy_dfa.proofs.ScanLemmas.{IsFoundAt-begin, no-span, no-state}
use Rattle.nfa_lazy_dfa.proofs.WorkLemmas.{Scans-one, Spends-none}
use Rattle.nfa_lazy_dfa.proofs.scan.begin.Goals as goal

pub returns-in_default-clause-none : goal.returns-in_default-clause-none
returns-in_default-clause-none c =
    no-state c.args.dfa.now (search_of c.args.input.now) (sym c.start_state.ensures.value ∙ c.in_default.is)

pub returns-then-is_done-clause-none : goal.returns-then-is_done-clause-none
returns-then-is_done-clause-none c =
    let x = search_of c.args.input.now in
    let past : x.end < x.start = c.is_done.ensures.0 c.if-is_done.true in
    no-span c.args.dfa.now x (ap is_some (sym c.start_state.ensures.value ∙ c.in-Some.is))
    (rw (lt-ltb x.end x.start past) refl)

pub first_row-requires-clause-start : goal.first_row-requires-clause-start
first_row-requires-clause-start c = sym c.start_state.ensures.value ∙ c.in-Some.is

pub returns-clause-at : goal.returns-clause-at
returns-clause-at c =
    let x = search_of c.args.input.now in
    record {
      begins = c.start-at.ensures;
      found = refl;
      at = IsFoundAt-begin c.args.dfa.now c.first_row.new.cache x x.start c.in_ok-row.row c.start-at.result
          c.start-at.ensures refl c.in_ok-row.ensures.at;
      alone = c.in_ok-row.ensures.alone;
    }

pub returns-in_default-clause-scan : goal.returns-in_default-clause-scan
returns-in_default-clause-scan c =
    let x = search_of c.args.input.now in
    let b = c.count_scan.new.self in
    Scans-one c.args.cache.now b b 0 (x.end - x.start) c.count_scan.ensures.counts (Spends-none b 0 1) (omega arith)

pub returns-then-is_done-clause-scan : goal.returns-then-is_done-clause-scan
returns-then-is_done-clause-scan c =
    let x = search_of c.args.input.now in
    let b = c.count_scan.new.self in
    Scans-one c.args.cache.now b b 0 (x.end - x.start) c.count_scan.ensures.counts (Spends-none b 0 1) (omega arith)

pub returns-in_err-row-clause-scan : goal.returns-in_err-row-clause-scan
returns-in_err-row-clause-scan c =
    let x = search_of c.args.input.now in
    Scans-one c.args.cache.now c.count_scan.new.self c.first_row.new.cache 0 (x.end - x.start)
    c.count_scan.ensures.counts (search rules) (omega arith)

pub returns-clause-scan : goal.returns-clause-scan
returns-clause-scan c =
    let x = search_of c.args.input.now in
    Scans-one c.args.cache.now c.count_scan.new.self c.first_row.new.cache 0 (x.end - x.start)
    c.count_scan.ensures.counts (search rules) (omega arith)

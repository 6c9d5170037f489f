-- The first row is that of the start, after a byte like the one before the span.
use Rattle.nfa_paths.proofs.Common.{rules, ap, arith, slice_get, search_of}
use Rattle.nfa_lazy_dfa.proofs.ScanLemmas.{IsAt-begin}
use Rattle.nfa_lazy_dfa.proofs.StopLemmas.{IsStop-gave_up, IsUsedUp-at}
use Rattle.nfa_lazy_dfa.proofs.RowLemmas.{some-same}
use Rattle.nfa_lazy_dfa.specs.Rows.{stances_of}
use Rattle.nfa_lazy_dfa.specs.Stances.{Stance, first_stance}
use Rattle.nfa_lazy_dfa.proofs.scan.first_row.Goals as goal

pub returns-in-Ok-clause-alone : goal.returns-in-Ok-clause-alone
returns-in-Ok-clause-alone c = λ s is.
    ap (λ (t : Stance). t.states) (some-same (slice_get (stances_of c.start.new.self.stands.items) c.in-Ok.row) s
    (first_stance c.args.start c.in_ok-seen.seen c.may_start_later.result) is c.in-Ok.ensures.row)

pub returns-in-Ok-clause-at : goal.returns-in-Ok-clause-at
returns-in-Ok-clause-at c =
    let x = search_of c.args.input.now in
    let dfa = c.args.dfa.now in
    IsAt-begin dfa x c.start.new.self c.in-Ok.row c.args.start c.in_ok-seen.seen c.may_start_later.result
    c.requires.start c.requires.order c.in-Ok.ensures.row c.may_start_later.ensures.count
    c.may_start_later.ensures.begins c.args.input.now.within c.in_ok-seen.ensures.read c.in_ok-seen.ensures.like

pub returns-in-Err-clause-stops : goal.returns-in-Err-clause-stops
returns-in-Err-clause-stops c =
    let x = search_of c.args.input.now in
    IsStop-gave_up c.args.dfa.now.nfa x c.at.result c.in-Err.gave_up c.start-at.result c.at.ensures
    (record { low = omega (arith, c.start-at.ensures); high = omega (arith, c.start-at.ensures, c.requires.order) })

pub returns-in-Err-clause-full : goal.returns-in-Err-clause-full
returns-in-Err-clause-full c =
    IsUsedUp-at c.start.new.self c.args.dfa.now c.at.result c.in-Err.gave_up c.start-at.result c.at.ensures
    c.in-Err.ensures.full

pub returns-in_err-seen-clause-full : goal.returns-in_err-seen-clause-full
returns-in_err-seen-clause-full c = let full = c.in_err-seen.ensures.full c.args.cache.now in search rules

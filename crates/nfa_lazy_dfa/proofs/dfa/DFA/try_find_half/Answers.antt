-- The rows fit, and the search spends what its scans do.
use Rattle.nfa_paths.proofs.Common.{rules, IfErr-weaker, on_ok_weaker, search_of}
use Rattle.nfa_lazy_dfa.specs.Capacities.{HasNoRoom, IsUsedUpAt}
use Rattle.nfa_lazy_dfa.specs.Rows.{IsFor}
use Rattle.nfa_lazy_dfa.proofs.CountLemmas.{CountsStop-err, HasNoRoom-stops, HasReadSpan-stops, IsBounded-stops}
use Rattle.nfa_lazy_dfa.proofs.ReadLemmas.{HasReadSpan-more}
use Rattle.nfa_lazy_dfa.proofs.StopLemmas.{HasNoRoom-scans}
use Rattle.nfa_lazy_dfa.proofs.WorkLemmas.{IsBounded-scans}
use Rattle.nfa_lazy_dfa.proofs.dfa.DFA.try_find_half.Goals as goal

pub returns-clause-memory : goal.returns-clause-memory
unfolding IsFor
returns-clause-memory c = c.count_stop.ensures.own.fits

pub returns-clause-counts : goal.returns-clause-counts
returns-clause-counts c =
    CountsStop-err c.find_half-half.result c.args.cache.now c.count_stop.new.self c.copy-before.result c.is_err.result
    c.copy-before.ensures c.is_err.ensures.value c.count_stop.ensures.answered c.count_stop.ensures.stopped

pub returns-clause-work : goal.returns-clause-work
returns-clause-work c =
    let dfa = c.args.self.now in
    let x = search_of c.args.input in
    IsBounded-stops c.args.cache.now c.find_half-half.new.cache c.count_stop.new.self c.count_stop.ensures.same dfa x
    (IsBounded-scans c.args.cache.now c.allow.new.self c.find_half-half.new.cache dfa x c.allow.ensures.allows
    c.find_half-half.ensures.work)

pub returns-clause-full : goal.returns-clause-full
returns-clause-full c =
    let dfa = c.args.self.now in
    let x = search_of c.args.input in
    let old = c.args.cache.now in
    let end = c.find_half-half.new.cache in
    IfErr-weaker _ (IsUsedUpAt end dfa) (HasNoRoom old c.count_stop.new.self dfa)
    (λ e used. HasNoRoom-stops old end c.count_stop.new.self c.count_stop.ensures.same dfa e
    (HasNoRoom-scans old c.allow.new.self end dfa x c.allow.ensures.allows c.find_half-half.ensures.work e used))
    (search rules)

pub returns-clause-reads : goal.returns-clause-reads
returns-clause-reads c =
    let dfa = c.args.self.now in
    let x = search_of c.args.input in
    let old = c.args.cache.now in
    let end = c.find_half-half.new.cache in
    on_ok_weaker c.find_half-half.result
    (λ reads. HasReadSpan-stops old end c.count_stop.new.self c.count_stop.ensures.same dfa x
    (HasReadSpan-more old c.allow.new.self end dfa x c.allow.ensures.allows.steps reads))
    c.find_half-half.ensures.reads

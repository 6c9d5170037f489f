-- The rows fit, and the search spends what its scan does.
use Rattle.nfa_paths.proofs.Common.{◌-◌, Bool, false, subst, arith, IfErr-weaker, IfOk-weaker, on_ok_weaker, Search, search_of, IsOverlapResult}
use Rattle.regex_search_core.specs.declared.search.MatchKind.TheVariants.{All}
use Rattle.nfa_lazy_dfa.specs.Capacities.{HasNoRoom, IsUsedUpAt}
use Rattle.nfa_lazy_dfa.specs.Reads.{HasRead, IsSetOver}
use Rattle.nfa_lazy_dfa.specs.Rows.{IsFor, Scans}
use Rattle.nfa_lazy_dfa.specs.Sets.{IsPartOfOverlap}
use Rattle.nfa_lazy_dfa.proofs.CountLemmas.{CountsStop-err, HasNoRoom-stops, HasRead-stops, IsBounded-stops}
use Rattle.nfa_lazy_dfa.proofs.ReadLemmas.{HasRead-more}
use Rattle.nfa_paths.proofs.FlagSetLemmas.{set-asked}
use Rattle.nfa_lazy_dfa.proofs.FlagLemmas.{part-same}
use Rattle.nfa_lazy_dfa.proofs.StopLemmas.{HasNoRoom-scans}
use Rattle.nfa_lazy_dfa.proofs.WorkLemmas.{IsBounded-scans, ScansAtMost-one}
use Rattle.nfa_lazy_dfa.proofs.dfa.DFA.try_which_overlapping_matches.Goals as goal
use Rattle.nfa_lazy_dfa.proofs.dfa.DFA.try_which_overlapping_matches.Goals.{After-overlap-done}

pub returns-clause-memory : goal.returns-clause-memory
unfolding IsFor
returns-clause-memory c = c.count_stop.ensures.own.fits

pub returns-clause-result : goal.returns-clause-result
returns-clause-result c =
    let x = search_of c.args.input.now in
    let nfa = c.args.self.now.nfa in
    let old = c.args.patterns.now in
    let new = c.overlap-done.new.patterns in
    let e = c.get_earliest.result in
    IfOk-weaker _ (λ t. IsOverlapResult nfa (search_of c.earliest-whole.result) All e old new)
    (λ t. IsOverlapResult nfa x All x.earliest old new)
    (λ t r. subst (λ (b : Bool). IsOverlapResult nfa x All b old new) c.get_earliest.ensures
    (set-asked nfa x false All e old new
    (subst (λ (y : Search). IsOverlapResult nfa y All e old new) c.earliest-whole.ensures r)))
    c.overlap-done.ensures.result

pub returns-clause-part : goal.returns-clause-part
returns-clause-part c =
    let x = search_of c.args.input.now in
    let nfa = c.args.self.now.nfa in
    let old = c.args.patterns.now in
    let new = c.overlap-done.new.patterns in
    let e = c.get_earliest.result in
    IfErr-weaker _ (λ t. IsPartOfOverlap nfa (search_of c.earliest-whole.result) e old new)
    (λ t. IsPartOfOverlap nfa x x.earliest old new)
    (λ t r. subst (λ (b : Bool). IsPartOfOverlap nfa x b old new) c.get_earliest.ensures
    (part-same nfa x false e old new
    (subst (λ (y : Search). IsPartOfOverlap nfa y e old new) c.earliest-whole.ensures r)))
    c.overlap-done.ensures.part

pub returns-clause-counts : goal.returns-clause-counts
returns-clause-counts c =
    CountsStop-err c.overlap-done.result c.args.cache.now c.count_stop.new.self c.copy-before.result c.is_err.result
    c.copy-before.ensures c.is_err.ensures.value c.count_stop.ensures.answered c.count_stop.ensures.stopped

-- the scan is of the input with another flag
scan : (c : After-overlap-done) → let x = search_of c.args.input.now in
    Scans c.allow.new.self c.overlap-done.new.cache 1 (x.end - x.start)
scan c =
    subst (λ (y : Search). Scans c.allow.new.self c.overlap-done.new.cache 1 (y.end - y.start)) c.earliest-whole.ensures
    c.overlap-done.ensures.scan

pub returns-clause-work : goal.returns-clause-work
returns-clause-work c =
    let dfa = c.args.self.now in
    let x = search_of c.args.input.now in
    let mid = c.allow.new.self in
    let end = c.overlap-done.new.cache in
    IsBounded-stops c.args.cache.now end c.count_stop.new.self c.count_stop.ensures.same dfa x
    (IsBounded-scans c.args.cache.now mid end dfa x c.allow.ensures.allows
    (ScansAtMost-one mid end x (scan (goal.at.returns-clause-work c).After-overlap-done)))

pub returns-clause-full : goal.returns-clause-full
returns-clause-full c =
    let dfa = c.args.self.now in
    let x = search_of c.args.input.now in
    let old = c.args.cache.now in
    let mid = c.allow.new.self in
    let end = c.overlap-done.new.cache in
    let work = ScansAtMost-one mid end x (scan (goal.at.returns-clause-full c).After-overlap-done) in
    IfErr-weaker _ (IsUsedUpAt end dfa) (HasNoRoom old c.count_stop.new.self dfa)
    (λ e used. HasNoRoom-stops old end c.count_stop.new.self c.count_stop.ensures.same dfa e
    (HasNoRoom-scans old mid end dfa x c.allow.ensures.allows work e used)) c.overlap-done.ensures.full

pub returns-clause-reads : goal.returns-clause-reads
returns-clause-reads c =
    let x = search_of c.args.input.now in
    let dfa = c.args.self.now in
    let old = c.args.cache.now in
    let end = c.overlap-done.new.cache in
    let new = c.count_stop.new.self in
    let set = c.overlap-done.new.patterns in
    on_ok_weaker c.overlap-done.result
    (λ reads. subst (λ (b : Bool). HasRead (IsSetOver dfa x b set) old new x.start) c.get_earliest.ensures
    (HasRead-stops old end new c.count_stop.ensures.same (IsSetOver dfa x c.get_earliest.result set) x.start
    (HasRead-more (IsSetOver dfa x c.get_earliest.result set) old c.allow.new.self end x.start x.start (omega arith)
    (omega (arith, c.allow.ensures.allows.steps))
    (subst (λ (y : Search). HasRead (IsSetOver dfa y c.get_earliest.result set) c.allow.new.self end y.start)
    c.earliest-whole.ensures reads)))) c.overlap-done.ensures.reads

-- The only scan has counted what it read. If a match has to end on a boundary, the search is one by steps.
use Rattle.nfa_paths.proofs.Common.{option_map, IfOk-weaker, on_ok_weaker, half_found_of, search_of, IsHalfAnswer}
use Rattle.nfa_lazy_dfa.specs.Configurations.{IsStepsHalf}
use Rattle.nfa_lazy_dfa.proofs.ReadLemmas.{HasReadSpan-one}
use Rattle.nfa_lazy_dfa.proofs.search.find_half.Goals as goal

pub returns-then-dfa-clause-answer : goal.returns-then-dfa-clause-answer
returns-then-dfa-clause-answer c =
    let nfa = c.args.dfa.now.nfa in
    let kind = c.args.dfa.now.kind in
    let x = search_of c.args.input.now in
    IfOk-weaker c.find_on_boundary.result
    (λ half. IsStepsHalf nfa kind x.earliest x (option_map half_found_of half))
    (λ half. IsHalfAnswer nfa kind x.earliest x (option_map half_found_of half))
    (λ half steps. (c.steps_find_the_half.ensures nfa x kind x.earliest (option_map half_found_of half)).1 steps)
    c.find_on_boundary.ensures.steps

pub returns-clause-reads : goal.returns-clause-reads
returns-clause-reads c =
    on_ok_weaker c.scan_half.result
    (HasReadSpan-one c.args.cache.now c.scan_half.new.cache c.args.dfa.now (search_of c.args.input.now))
    c.scan_half.ensures.reads

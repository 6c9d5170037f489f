-- A step by the borrowed finder is one by the finder.
use Rattle.nfa_paths.proofs.Common.{found_of}
use Rattle.nfa_search_base.specs.Common.{span_of, only_cache}
use Rattle.nfa_search_base.proofs.StepLemmas.{finder_calls, serves-whole, step-whole}
use Rattle.nfa_search_base.proofs.iter.searcher.Searcher.try_advance_by_ref.Goals as goal

pub step_with-requires : goal.step_with-requires
step_with-requires g c =
    serves-whole only_cache (finder_calls found_of span_of g.F.FnMut) c.requires

pub returns-clause-step : goal.returns-clause-step
returns-clause-step g c =
    step-whole only_cache (finder_calls found_of span_of g.F.FnMut) c.step_with.ensures.step

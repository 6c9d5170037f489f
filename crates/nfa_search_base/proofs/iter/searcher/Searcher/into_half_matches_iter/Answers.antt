-- The items are the list of the finder.
use Rattle.nfa_paths.proofs.Common.{refl, arith, HalfFound, half_found_of, Search}
use Rattle.nfa_search_base.specs.Common.{IsCallableOn, Finds, Answer, half_span_of, steps_from}
use Rattle.nfa_search_base.proofs.GreedyLemmas.{try-yields}
use Rattle.nfa_search_base.proofs.MayAnswerLemmas.{found, found-disjoint}
use Rattle.nfa_search_base.proofs.iter.searcher.Searcher.into_half_matches_iter.Goals as goal

pub returns : goal.returns
returns g c =
    let s = steps_from c.args.self c.args.finder in
    let given = found half_found_of half_span_of g.F.FnMut s refl in
    let disjoint = found-disjoint half_found_of half_span_of g.F.FnMut (λ m. omega arith) s refl c.requires in
    let list = λ (h : Search → Answer HalfFound).
    try-yields (IsCallableOn g.F.FnMut) (Finds half_found_of g.F.FnMut) half_span_of half_found_of h s in
    rw c.new.ensures (assumption (refl, c.requires, given, disjoint, list))

-- The items are the list of the finder.
use Rattle.nfa_paths.proofs.Common.{refl, Found, found_of, Search}
use Rattle.nfa_search_base.specs.Common.{IsCallableOn, Finds, Answer, span_of, steps_from}
use Rattle.nfa_search_base.proofs.GreedyLemmas.{try-yields}
use Rattle.nfa_search_base.proofs.MayAnswerLemmas.{found, found-disjoint}
use Rattle.nfa_search_base.proofs.iter.searcher.Searcher.into_matches_iter.Goals as goal

pub returns : goal.returns
returns g c =
    let s = steps_from c.args.self c.args.finder in
    let given = found found_of span_of g.F.FnMut s refl in
    let disjoint = found-disjoint found_of span_of g.F.FnMut (λ m. m.ordered) s refl c.requires in
    let list = λ (h : Search → Answer Found).
    try-yields (IsCallableOn g.F.FnMut) (Finds found_of g.F.FnMut) span_of found_of h s in
    rw c.new.ensures (assumption (refl, c.requires, given, disjoint, list))

-- The laws, of this search.
use Rattle.nfa_engines.specs.Found.{found_of}
use Rattle.nfa_engines.specs.Search.{search_of}
use Rattle.std.proofs.Common.{map}
use Rattle.nfa_engines.specs.Engines.{kind_of}
use Rattle.callers.proofs.HalfLemmas.{halves-are-ends}
use Rattle.callers.proofs.halves.matches_with_ends.Goals as goal

pub returns : goal.returns
returns c =
    let x = search_of c.args.input in
    λ halves are.
    halves-are-ends c.every_search_has_an_answer.ensures c.one_match.ensures.matches c.one_half_match.ensures.one
    c.half_and_full_agree.ensures c.half_matches_are_ends.ensures c.args.vm.now.nfa (kind_of c.args.vm.now) x.earliest
    c.pikevm_nfa_is_valid.ensures c.requires.recorded x (map found_of c.in_ok-found.found.items) halves
    c.args.input.ordered c.in_ok-found.ensures.all are

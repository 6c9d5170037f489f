-- The law, of the kind of this PikeVM.
use Rattle.std.proofs.Common.{Bool, List, subst}
use Rattle.nfa_engines.specs.Search.{search_of}
use Rattle.nfa_engines.specs.Engines.{kind_of}
use Rattle.nfa_engines.specs.Overlaps.{IsOverlapResult}
use Rattle.callers.proofs.KindLemmas.{of_either}
use Rattle.callers.proofs.sets.sets_are_one.Goals as goal

pub returns : goal.returns
returns c =
    let one = c.cache_history_is_invisible.ensures in
    let nfa = c.args.vm.now.nfa in
    let x = search_of c.args.input.now in
    let kind = kind_of c.args.vm.now in
    let others = c.which_overlapping_matches-2.new.patterns in
    of_either one.patterns one.first_patterns kind nfa x x.earliest _ _ others
    c.which_overlapping_matches.ensures.result
    (subst (λ (set : List Bool). IsOverlapResult nfa x kind x.earliest set others) c.requires.same
    c.which_overlapping_matches-2.ensures.result)

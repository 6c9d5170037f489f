-- The law, of the two matches.
use Rattle.std.proofs.Common.{option_map}
use Rattle.nfa_engines.specs.Found.{found_of}
use Rattle.nfa_engines.specs.Search.{search_of}
use Rattle.nfa_engines.specs.Anchored.TheVariants.{Pattern, Yes}
use Rattle.nfa_engines.specs.Engines.{kind_of}
use Rattle.callers.proofs.PathStateLemmas.{match_of_search}
use Rattle.callers.proofs.places.only_pattern.Goals as goal

pub returns : goal.returns
returns c =
    let x = search_of c.args.input in
    let nfa = c.args.vm.now.nfa in
    let kind = kind_of c.args.vm.now in
    let bound = option_map found_of c.find-bound.result in
    let anchored = option_map found_of c.find-anchored.result in
    c.one_match.ensures.matches nfa (record x { anchored = Yes }) kind x.earliest bound anchored
    ((c.pattern_is_alone.ensures.match_of nfa x c.args.pattern nfa.anchored kind x.earliest bound c.requires.only).0
    (match_of_search nfa kind (record x { anchored = Pattern c.args.pattern }) _ bound c.anchored-of_pattern.ensures
    c.find-bound.ensures.answer))
    (match_of_search nfa kind (record x { anchored = Yes }) _ anchored c.anchored-of_start.ensures
    c.find-anchored.ensures.answer)

-- The law, of this search.
use Rattle.std.proofs.Common.{option_map}
use Rattle.nfa_engines.specs.Found.{half_found_of}
use Rattle.nfa_engines.specs.Search.{search_of}
use Rattle.nfa_engines.specs.Engines.{kind_of}
use Rattle.callers.proofs.halves.end_of_match.Goals as goal

pub returns : goal.returns
returns c =
    let x = search_of c.args.input in
    λ found is.
    c.half_matches_are_ends.ensures c.args.vm.now.nfa (kind_of c.args.vm.now) x.earliest x
    (option_map half_found_of c.find_half.result) found c.pikevm_nfa_is_valid.ensures c.requires.recorded
    c.find_half.ensures.answer is

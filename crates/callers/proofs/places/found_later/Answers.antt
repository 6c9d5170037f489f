-- The law, of this match.
use Rattle.std.proofs.Common.{option_map}
use Rattle.nfa_engines.specs.Found.{found_of}
use Rattle.nfa_engines.specs.Search.{search_of}
use Rattle.nfa_engines.specs.Engines.{kind_of}
use Rattle.nfa_engines.specs.StartLaws.{from_start}
use Rattle.callers.proofs.PathStateLemmas.{match_of_search}
use Rattle.callers.proofs.places.found_later.Goals as goal

pub returns : goal.returns
returns c =
    let x = search_of c.args.input in
    let found = option_map found_of c.find.result in
    (c.starts_may_be_passed.ensures.matches c.args.vm.now.nfa x c.args.start (kind_of c.args.vm.now) x.earliest found
    c.requires.unbound c.requires.first).1
    (match_of_search c.args.vm.now.nfa (kind_of c.args.vm.now) (from_start x c.args.start) _ found c.set_start.ensures
    c.find.ensures.answer)

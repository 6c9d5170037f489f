-- The iterator gives the items of its input.
use Rattle.nfa_paths.proofs.Common.{refl, search_of}
use Rattle.nfa_backtrack.proofs.FindLemmas.{finds-searches}
use Rattle.nfa_backtrack.proofs.RunLemmas.{finds-given, oks-match, given-by-length, runs-disjoint, runs-inside}
use Rattle.nfa_backtrack.proofs.engine.BoundedBacktracker.try_find_iter.Goals as goal

pub returns : goal.returns
returns c =
    let e = c.args.self.now in
    let x = search_of c.args.input in
    let iter_state = c.new.ensures in
    record {
      same_reference = refl;
      same_cache = refl;
      given = finds-given e x _ refl iter_state refl;
      matches = oks-match e x _ refl iter_state refl;
      inside = runs-inside e x _ refl iter_state refl;
      disjoint = runs-disjoint e x _ refl iter_state refl;
      by_length = given-by-length e x _ refl iter_state refl;
      searches = finds-searches e x _ refl iter_state refl refl;
    }

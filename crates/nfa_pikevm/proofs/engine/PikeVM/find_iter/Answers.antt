-- The iterator gives the matches of its input, and keeps the cache.
use Rattle.nfa_paths.proofs.Common.{refl, search_of}
use Rattle.nfa_pikevm.proofs.FindLemmas.{finds-given, finds-searches, gives-cache}
use Rattle.nfa_pikevm.proofs.engine.PikeVM.find_iter.Goals as goal

pub returns : goal.returns
returns c =
    let vm = c.args.self.now in
    let x = search_of c.args.input in
    record {
      same_reference = refl;
      same_cache = refl;
      given = finds-given vm x _ refl c.new.ensures refl;
      searches = finds-searches vm x _ refl c.new.ensures refl refl;
      keeps = gives-cache _;
    }

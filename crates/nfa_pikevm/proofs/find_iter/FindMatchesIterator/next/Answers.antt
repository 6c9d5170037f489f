-- A step may be made, never errs, and leaves what the iterator keeps.
use Rattle.nfa_paths.proofs.Common.{found_of}
use Rattle.nfa_search_base.specs.Common.{with_cache, steps_with_state, span_of}
use Rattle.nfa_search_base.proofs.StoredLemmas.{surely-inside}
use Rattle.nfa_pikevm.specs.Iterators.{AsksPike, MayFindByPike, pike_matches}
use Rattle.nfa_pikevm.proofs.FindLemmas.{find-serves, step-goes}
use Rattle.nfa_pikevm.proofs.find_iter.FindMatchesIterator.next.Goals as goal

pub next_with-requires : goal.next_with-requires
next_with-requires c = surely-inside MayFindByPike AsksPike span_of found_of
    (steps_with_state (pike_matches c.args.self.now))
    (find-serves c.args.self.now)

pub invariant_of-self : goal.invariant_of-self
invariant_of-self c =
    let k = step-goes c.args.self.now c.next_with.result (with_cache c.next_with.new.self c.next_with.new.cache)
    c.next_with.ensures in
    record { fits = k.fits; knows = k.knows }

-- A step may be made, and leaves what the iterator keeps.
use Rattle.nfa_search_base.specs.Stored.{with_cache}
use Rattle.nfa_backtrack.proofs.FindLemmas.{find-serves, step-goes}
use Rattle.nfa_backtrack.proofs.find_iter.TryFindMatchesIterator.next.Goals as goal

pub next_with-requires : goal.next_with-requires
next_with-requires c = find-serves c.args.self.now

pub invariant_of-self : goal.invariant_of-self
invariant_of-self c =
    let k = step-goes c.args.self.now c.next_with.result (with_cache c.next_with.new.self c.next_with.new.cache)
    c.next_with.ensures in
    record { knows = k.knows }

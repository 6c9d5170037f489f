-- A step may be made, and leaves what the iterator keeps.
use Rattle.nfa_search_base.specs.Common.{with_cache, steps_with_state}
use Rattle.nfa_search_base.proofs.DrainedLemmas.{fills-go, fills-serve}
use Rattle.nfa_pikevm.specs.Iterators.{pike_captures}
use Rattle.nfa_pikevm.proofs.CapturesLemmas.{pike_filler}
use Rattle.nfa_pikevm.proofs.captures_iter.CapturesMatchesIterator.next.Goals as goal

pub next_with-requires : goal.next_with-requires
next_with-requires c = fills-serve pike_filler (steps_with_state (pike_captures c.args.self.now))
    (record { fits = c.args.self.now.fits; holds = c.args.self.now.holds })

pub invariant_of-self : goal.invariant_of-self
invariant_of-self c =
    let left = with_cache c.next_with.new.self c.next_with.new.cache in
    let k = fills-go pike_filler (steps_with_state (pike_captures c.args.self.now)) c.next_with.result left
    c.next_with.ensures (record { fits = c.args.self.now.fits; holds = c.args.self.now.holds }) in
    record { fits = k.fits; holds = k.holds }

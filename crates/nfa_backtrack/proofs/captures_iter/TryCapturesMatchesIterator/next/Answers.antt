-- A step may be made, and leaves what the iterator keeps.
use Rattle.nfa_search_base.specs.Common.{with_cache, steps_with_state}
use Rattle.nfa_search_base.proofs.DrainedLemmas.{fills-go, fills-serve}
use Rattle.nfa_backtrack.specs.Iterators.{backtrack_captures}
use Rattle.nfa_backtrack.proofs.CapturesLemmas.{back_filler}
use Rattle.nfa_backtrack.proofs.captures_iter.TryCapturesMatchesIterator.next.Goals as goal

pub next_with-requires : goal.next_with-requires
next_with-requires c = fills-serve back_filler (steps_with_state (backtrack_captures c.args.self.now))
    (record { fits = tt; holds = c.args.self.now.holds })

pub invariant_of-self : goal.invariant_of-self
invariant_of-self c =
    let left = with_cache c.next_with.new.self c.next_with.new.cache in
    let k = fills-go back_filler (steps_with_state (backtrack_captures c.args.self.now)) c.next_with.result left
    c.next_with.ensures (record { fits = tt; holds = c.args.self.now.holds }) in
    record { holds = k.holds }

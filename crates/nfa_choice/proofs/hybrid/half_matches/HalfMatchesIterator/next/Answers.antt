-- A step may be made, and never errs.
use Rattle.nfa_paths.proofs.Common.{half_found_of}
use Rattle.nfa_search_base.specs.Common.{may_ask, steps_with_state, half_span_of}
use Rattle.nfa_search_base.proofs.StoredLemmas.{surely-inside}
use Rattle.nfa_choice.specs.HalfIterations.{AsksHalf}
use Rattle.nfa_choice.specs.HybridState.{pike_of}
use Rattle.nfa_choice.specs.Halves.{FindsHalfInTurn, half_steps}
use Rattle.nfa_choice.proofs.HalvesLemmas.{halves-serve, hybrid_engine}
use Rattle.nfa_choice.proofs.hybrid.half_matches.HalfMatchesIterator.next.Goals as goal

pub next_with-requires : goal.next_with-requires
next_with-requires c =
    let s = steps_with_state (half_steps c.args.self.now) in
    surely-inside may_ask (AsksHalf pike_of FindsHalfInTurn) half_span_of half_found_of s (halves-serve hybrid_engine s)

-- A step may be made, and never errs.
use Rattle.nfa_paths.proofs.Common.{half_found_of}
use Rattle.nfa_search_base.specs.Common.{may_ask, steps_with_state, half_span_of}
use Rattle.nfa_search_base.proofs.StoredLemmas.{surely-inside}
use Rattle.nfa_choice.specs.HalfIterations.{AsksHalf}
use Rattle.nfa_choice.proofs.HalvesLemmas.{halves-serve}
use Rattle.nfa_meta.specs.Halves.{FindsHalfAfterDfa, half_steps}
use Rattle.nfa_meta.specs.RegexState.{pike_of}
use Rattle.nfa_meta.proofs.HalvesLemmas.{regex_engine}
use Rattle.nfa_meta.proofs.regex.half_matches.HalfMatchesIterator.next.Goals as goal

pub next_with-requires : goal.next_with-requires
next_with-requires c =
    let s = steps_with_state (half_steps c.args.self.now) in
    surely-inside may_ask (AsksHalf pike_of FindsHalfAfterDfa) half_span_of half_found_of s
    (halves-serve regex_engine s)

-- A step may be made, and leaves what the iterator keeps.
use Rattle.nfa_search_base.specs.Common.{steps_with_state, with_cache}
use Rattle.nfa_meta.specs.CapturesMatches.{captures_steps}
use Rattle.nfa_choice.proofs.CapturesLemmas.{step-goes, steps-serve}
use Rattle.nfa_meta.proofs.RegexLemmas.{regex_keeps}
use Rattle.nfa_meta.proofs.regex.captures_iter.CapturesMatchesIterator.next.Goals as goal

pub next_with-requires : goal.next_with-requires
next_with-requires c =
    let s = c.args.self.now in steps-serve regex_keeps (steps_with_state (captures_steps s)) s.holds

pub invariant_of-self : goal.invariant_of-self
invariant_of-self c =
    let s = c.args.self.now in
    record {
      holds = step-goes regex_keeps (steps_with_state (captures_steps s)) c.next_with.result
          (with_cache c.next_with.new.self c.next_with.new.cache) c.next_with.ensures s.holds;
    }

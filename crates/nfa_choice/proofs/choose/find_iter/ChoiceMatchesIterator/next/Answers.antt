-- A step may be made, and never errs.
use Rattle.nfa_paths.proofs.Common.{found_of}
use Rattle.nfa_search_base.specs.Common.{may_ask, steps_with_state, span_of}
use Rattle.nfa_search_base.proofs.StoredLemmas.{surely-inside}
use Rattle.nfa_choice.specs.Iterations.{AsksByRule, choice_matches}
use Rattle.nfa_choice.proofs.FindLemmas.{finder-serves, rule_finder}
use Rattle.nfa_choice.proofs.choose.find_iter.ChoiceMatchesIterator.next.Goals as goal

pub next_with-requires : goal.next_with-requires
next_with-requires c =
    let s = steps_with_state (choice_matches c.args.self.now) in
    surely-inside may_ask AsksByRule span_of found_of s (finder-serves rule_finder s tt)

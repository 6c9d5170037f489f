-- Starts without an accepting path may be passed over.
use Rattle.nfa_engines.proofs.MovedAnswerLemmas.{bool-movable, half-movable, match-movable, slots-movable}
use Rattle.nfa_engines.proofs.StartAnswerLemmas.{nothing-at, nothing-of, passed}
use Rattle.nfa_engines.proofs.laws.starts_may_be_passed.Goals as goal

pub returns : goal.returns
returns c = record {
  answers = λ pattern nfa x s kind earliest slots free first.
      passed nfa x free s first (slots-movable pattern) kind earliest slots;
  matches = λ nfa x s kind earliest found free first. passed nfa x free s first match-movable kind earliest found;
  halves = λ nfa x s kind earliest half free first. passed nfa x free s first half-movable kind earliest half;
  found = λ nfa x s kind earliest found free first. passed nfa x free s first bool-movable kind earliest found;
  nothing = λ nfa x free. (nothing-at nfa x free, nothing-of nfa x free);
}

-- A path writes the slots that are kept as before.
use Rattle.nfa_paths.proofs.Common.{◌≤◌, length, subst, slot_count, IsAnswer}
use Rattle.nfa_facts.specs.Kept.{kept_groups, with_captures}
use Rattle.nfa_facts.proofs.KeptLemmas.{row-kept, same-ways}
use Rattle.nfa_facts.proofs.SetLemmas.{slots-answer}
use Rattle.nfa_facts.proofs.captures.laws.kept_slots_are_the_same.Goals as goal

pub returns : goal.returns
unfolding with_captures
returns c = λ which nfa small kind earliest x pattern slots is few answer.
    let groups = kept_groups which nfa.groups in
    slots-answer (with_captures which nfa) nfa (same-ways groups nfa) kind earliest x pattern slots
    (λ r. row-kept groups nfa (length slots) r (subst (λ a. length slots ≤ slot_count a.groups) is few))
    (subst (λ a. IsAnswer a kind earliest x pattern slots) is answer)

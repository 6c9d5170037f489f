-- A path writes the slots of group 0 as before.
use Rattle.nfa_paths.proofs.Common.{subst, IsFindAnswer}
use Rattle.nfa_facts.specs.Kept.{kept_groups, with_captures}
use Rattle.nfa_facts.specs.declared.captures.which.WhichCaptures.TheVariants as which
use Rattle.nfa_facts.proofs.KeptLemmas.{match-kept, same-ways}
use Rattle.nfa_facts.proofs.SetLemmas.{find-answer}
use Rattle.nfa_facts.proofs.captures.laws.matches_need_group_0.Goals as goal

pub returns : goal.returns
unfolding with_captures
returns c = λ nfa small kind earliest x found valid is answer.
    find-answer (with_captures which.Implicit nfa) nfa (same-ways (kept_groups which.Implicit nfa.groups) nfa) kind
    earliest x found (λ r. match-kept nfa valid r) (subst (λ a. IsFindAnswer a kind earliest x found) is answer)

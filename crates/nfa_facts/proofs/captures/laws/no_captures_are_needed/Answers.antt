-- Paths do not depend on what they write.
use Rattle.nfa_paths.proofs.Common.{subst, IsOverlapResult, IsBoolAnswer, IsHalfAnswer}
use Rattle.nfa_facts.specs.Kept.{kept_groups, with_captures}
use Rattle.nfa_facts.proofs.KeptLemmas.{same-ways}
use Rattle.nfa_facts.proofs.SetLemmas.{set-same, half-answer, bool-answer}
use Rattle.nfa_facts.proofs.captures.laws.no_captures_are_needed.Goals as goal

pub returns-clause-found : goal.returns-clause-found
unfolding with_captures
returns-clause-found c = λ which nfa small kind earliest x found is answer.
    bool-answer (with_captures which nfa) nfa (same-ways (kept_groups which nfa.groups) nfa) kind earliest x found
    (subst (λ a. IsBoolAnswer a kind earliest x found) is answer)

pub returns-clause-half : goal.returns-clause-half
unfolding with_captures
returns-clause-half c = λ which nfa small kind earliest x half is answer.
    half-answer (with_captures which nfa) nfa (same-ways (kept_groups which nfa.groups) nfa) kind earliest x half
    (subst (λ a. IsHalfAnswer a kind earliest x half) is answer)

pub returns-clause-sets : goal.returns-clause-sets
unfolding with_captures
returns-clause-sets c = λ which nfa small x kind earliest old new is result.
    set-same (with_captures which nfa) nfa (same-ways (kept_groups which nfa.groups) nfa) x kind earliest old new
    (subst (λ a. IsOverlapResult a x kind earliest old new) is result)

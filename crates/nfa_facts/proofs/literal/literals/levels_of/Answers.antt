-- The prefix is what each match begins with.
use Rattle.nfa_facts.proofs.NeedleLemmas.{ok-some-then, prefix-admits}
use Rattle.nfa_facts.proofs.literal.literals.levels_of.Goals as goal

pub returns-else-prefix-lt-MIN_LEVELS : goal.returns-else-prefix-lt-MIN_LEVELS
returns-else-prefix-lt-MIN_LEVELS c =
    ok-some-then c.of_prefix.result
    (λ found admits. prefix-admits c.args.nfa.now c.args.prefix.now found c.requires admits) c.of_prefix.ensures

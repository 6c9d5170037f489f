-- No match starts where the bytes do not occur.
use Rattle.nfa_facts.proofs.PrefixLemmas.{first-moves-on, nothing-without}
use Rattle.nfa_facts.proofs.literal.laws.starts_without_prefix_may_be_passed.Goals as goal

pub returns-clause-nothing : goal.returns-clause-nothing
returns-clause-nothing c = λ nfa x bytes at begins none. nothing-without nfa x bytes begins at none

pub returns-clause-moves : goal.returns-clause-moves
returns-clause-moves c = λ nfa x bytes from at begins first onward none.
    first-moves-on nfa x bytes begins from at first onward none

pub returns-clause-first : goal.returns-clause-first
returns-clause-first c = λ nfa x bytes from at begins first here.
    first-moves-on nfa x bytes begins from at first here.onward here.before

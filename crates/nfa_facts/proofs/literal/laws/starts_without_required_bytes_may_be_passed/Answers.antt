-- No match starts where the bytes are not ahead.
use Rattle.nfa_facts.proofs.RequiredLemmas.{first-to-required, nothing-without}
use Rattle.nfa_facts.proofs.literal.laws.starts_without_required_bytes_may_be_passed.Goals as goal

pub returns-clause-nothing : goal.returns-clause-nothing
returns-clause-nothing c = λ nfa x r at required none. nothing-without nfa x r required at none

pub returns-clause-moves : goal.returns-clause-moves
returns-clause-moves c = λ nfa x r from at required first lacks.
    first-to-required nfa x r required from at first lacks

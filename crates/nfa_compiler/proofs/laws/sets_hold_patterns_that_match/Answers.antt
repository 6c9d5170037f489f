-- The set gains the patterns of accepting paths, and these are the patterns that match.
use Rattle.nfa_compiler.proofs.ExistsLemmas.{anywhere-ends, sets-iff}
use Rattle.nfa_compiler.proofs.laws.sets_hold_patterns_that_match.Goals as goal

pub returns : goal.returns
returns c = λ res nfa x old new made anywhere whole.
    sets-iff res nfa made x whole (anywhere-ends res nfa made x whole anywhere) old new

-- A path from the start of a pattern stays among its states.
use Rattle.nfa_compiler.specs.Compiled.{res_of}
use Rattle.nfa_compiler.proofs.WayLemmas.{matches-alone, tries-in-order}
use Rattle.nfa_compiler.proofs.laws.compiled_nfas_try_patterns_in_order.Goals as goal

pub returns-clause-patterns : goal.returns-clause-patterns
returns-clause-patterns c = λ res nfa x made. tries-in-order res nfa made x

pub returns-clause-texts : goal.returns-clause-texts
returns-clause-texts c = λ syntax texts nfa x compiled. tries-in-order (res_of compiled.trees) nfa compiled.made x

pub returns-clause-patterns_alone : goal.returns-clause-patterns_alone
returns-clause-patterns_alone c = λ res nfa x made. matches-alone res nfa made x

pub returns-clause-texts_alone : goal.returns-clause-texts_alone
returns-clause-texts_alone c = λ syntax texts nfa x compiled.
    matches-alone (res_of compiled.trees) nfa compiled.made x

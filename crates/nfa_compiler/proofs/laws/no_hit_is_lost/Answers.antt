-- A pattern that begins with `Start` matches nowhere else.
use Rattle.nfa_compiler.proofs.UnboundLemmas.{begun-at, loses-none, texts-lose-none}
use Rattle.nfa_compiler.proofs.laws.no_hit_is_lost.Goals as goal

pub returns-clause-begun : goal.returns-clause-begun
returns-clause-begun c = begun-at

pub returns-clause-patterns : goal.returns-clause-patterns
returns-clause-patterns c = λ res nfa haystack made free. loses-none res nfa made free haystack

pub returns-clause-texts : goal.returns-clause-texts
returns-clause-texts c = texts-lose-none

-- The first scan finds a path exactly if some pattern matches, and each path counts.
use Rattle.nfa_compiler.proofs.ExistsLemmas.{answers-iff, found-iff, sets-iff}
use Rattle.nfa_compiler.proofs.KindLemmas.{ascii-ends, ascii-scan}
use Rattle.nfa_compiler.proofs.laws.ascii_searches_find_if_patterns_match.Goals as goal

pub returns-clause-found : goal.returns-clause-found
returns-clause-found c = λ res nfa kind earliest x found made whole ascii.
    found-iff res nfa made x whole (ascii-ends res nfa x whole ascii) kind earliest
    (ascii-scan nfa kind earliest x whole ascii) found

pub returns-clause-answers : goal.returns-clause-answers
returns-clause-answers c = λ res nfa kind earliest x pattern slots made whole ascii.
    answers-iff res nfa made x whole (ascii-ends res nfa x whole ascii) kind earliest
    (ascii-scan nfa kind earliest x whole ascii) pattern slots

pub returns-clause-sets : goal.returns-clause-sets
returns-clause-sets c = λ res nfa x old new made whole ascii.
    sets-iff res nfa made x whole (ascii-ends res nfa x whole ascii) old new

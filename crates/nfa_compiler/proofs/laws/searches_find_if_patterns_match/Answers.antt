-- Scans of all kinds find a path exactly if some pattern matches.
use Rattle.nfa_paths.proofs.OneScanLemmas.{scan-of}
use Rattle.nfa_compiler.proofs.ExistsLemmas.{answers-iff, anywhere-ends, found-iff}
use Rattle.nfa_compiler.proofs.laws.searches_find_if_patterns_match.Goals as goal

pub returns-clause-found : goal.returns-clause-found
returns-clause-found c = λ res nfa kind earliest x found made anywhere whole.
    found-iff res nfa made x whole (anywhere-ends res nfa made x whole anywhere) kind earliest
    (scan-of nfa kind earliest x anywhere) found

pub returns-clause-answers : goal.returns-clause-answers
returns-clause-answers c = λ res nfa kind earliest x pattern slots made anywhere whole.
    answers-iff res nfa made x whole (anywhere-ends res nfa made x whole anywhere) kind earliest
    (scan-of nfa kind earliest x anywhere) pattern slots

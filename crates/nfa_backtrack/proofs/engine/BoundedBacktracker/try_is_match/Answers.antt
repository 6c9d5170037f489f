-- A search that answers no pattern has no answer.
use Rattle.nfa_paths.proofs.Common.{false, search_of, LeftmostFirst, arith}
use Rattle.nfa_paths.proofs.PatternLemmas.{found-of}
use Rattle.nfa_search_base.proofs.GreedyLemmas.{found-finds}
use Rattle.nfa_backtrack.proofs.engine.BoundedBacktracker.try_is_match.Goals as goal

pub returns-in-None-clause-answer : goal.returns-in-None-clause-answer
returns-in-None-clause-answer c = grind (arith, found-of)

pub returns-in-None-clause-finds : goal.returns-in-None-clause-finds
returns-in-None-clause-finds c =
    found-finds c.args.self.now.nfa LeftmostFirst false (search_of c.args.input) false (returns-in-None-clause-answer c)

pub returns-in-Some-clause-finds : goal.returns-in-Some-clause-finds
returns-in-Some-clause-finds c = grind (arith, found-finds, found-of)

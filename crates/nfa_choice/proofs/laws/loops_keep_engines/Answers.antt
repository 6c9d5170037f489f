-- A loop of searches keeps the engines of a choice.
use Rattle.nfa_engines.proofs.IterationLemmas.{kept-by-loop}
use Rattle.nfa_choice.specs.ChoiceState.{KeepsEngines}
use Rattle.nfa_choice.proofs.FindLemmas.{keeps-self, keeps-then}
use Rattle.nfa_choice.proofs.laws.loops_keep_engines.Goals as goal

pub returns-clause-loops : goal.returns-clause-loops
returns-clause-loops c = kept-by-loop KeepsEngines keeps-self keeps-then

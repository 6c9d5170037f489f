-- the cache fits the engine before each search
use Rattle.nfa_engines.specs.Engines.{Fits}
use Rattle.nfa_dot.proofs.path.answered_start.Given as goal

abbrev pub invariant-loop-start : goal.invariant-loop-start
invariant-loop-start l = Fits l.cache l.vm.nfa

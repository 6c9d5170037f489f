-- A loop keeps the sizes of a PikeVM's cache, and holds no more in a backtracker's than its searches need.
use Rattle.nfa_backtrack.specs.Backtrack.{HoldsNoMore}
use Rattle.nfa_pikevm.specs.Engines.{SameCapacities}
use Rattle.nfa_engines.proofs.IterationLemmas.{holds-none, holds-two, kept-by-loop, sizes-none, sizes-two}
use Rattle.nfa_engines.proofs.laws.loops_keep_caches.Goals as goal

pub returns-clause-loops : goal.returns-clause-loops
returns-clause-loops c = kept-by-loop SameCapacities sizes-none sizes-two

pub returns-clause-holds : goal.returns-clause-holds
returns-clause-holds c = λ needed. kept-by-loop (HoldsNoMore needed) (holds-none needed) (holds-two needed)

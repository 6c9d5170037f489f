-- Two lists of assertions that agree are one.
use Rattle.std.proofs.Common.{ap}
use Rattle.nfa_lazy_dfa.specs.Closures.{Holding, closure}
use Rattle.nfa_lazy_dfa.proofs.determinize.laws.closures_read_assertions.Goals as goal

pub returns : goal.returns
returns c = λ nfa a b states agree. ap (λ (holding : Holding). closure nfa holding states) (λ i look. agree look i)

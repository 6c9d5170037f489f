-- none so far is outside
use Rattle.std.proofs.Common.{take, ◌<◌, All}
use Rattle.thompson_nfa.proofs.validate.first_outside.Given as goal

abbrev pub invariant-loop-index : goal.invariant-loop-index
invariant-loop-index l = All (λ s. s < l.len) (take l.index l.ids)

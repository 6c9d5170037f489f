-- The states so far lead to states in range.
use Rattle.std.proofs.Common.{take, ◌<◌, All, IfSome}
use Rattle.thompson_nfa.proofs.validate.targets_below.Given as goal

abbrev pub invariant-loop-target : goal.invariant-loop-target
invariant-loop-target l = All (λ o. IfSome o (λ s. s < l.len)) (take l.target-index l.targets)

-- the transitions so far are moved, and lead to states that are
use Rattle.std.proofs.Common.{◌≡◌, ◌<◌, map, take, All}
use Rattle.nfa_compiler.specs.Blocks.{moved}
use Rattle.nfa_compiler.proofs.block.Site.transitions.Given as goal

abbrev pub invariant-loop-transition : goal.invariant-loop-transition
invariant-loop-transition l = record {
  inside : All (λ t. t.next < l.self.size) (take l.transition-index l.transitions);
  moved : l.made.items ≡ map (moved l.self) (take l.transition-index l.transitions);
}

-- No state is marked afterwards.
use Rattle.nfa_paths.proofs.Common.{arith}
use Rattle.nfa_pikevm_scan.proofs.RowLemmas.{cleared-newer, cleared-zeros}
use Rattle.nfa_pikevm_scan.proofs.seen.Seen.clear.Goals as goal

pub returns-then-self : goal.returns-then-self
returns-then-self c =
    rw (← c.self.view_is)
    (cleared-zeros c.self.inside.newest c.self.inside.turns _ c.self.inside.stamps.items _
    (c.fill.ensures.items (λ y e. e)) (omega arith))

pub returns-else-self : goal.returns-else-self
returns-else-self c =
    rw (← c.self.view_is) (cleared-newer c.self.inside.newest c.self.inside.turns c.self.inside.stamps.items
    c.self.invariant.0)

-- The patterns so far were pushed.
use Rattle.std.proofs.Common.{◌≡◌, ℕ, List, map, take}
use Rattle.std.specs.Borrow.{Bor}
use Rattle.lexer.specs.declared.rules.Rule.{Rule}
use Rattle.lexer.proofs.rules.patterns_of.Given as goal

abbrev pub invariant-loop-rule : goal.invariant-loop-rule
invariant-loop-rule l =
    map (λ (text : Bor (List ℕ)). text.now) l.patterns.items
    ≡ map (λ (rule : Rule). rule.pattern.now) (take l.rule-index l.rules)

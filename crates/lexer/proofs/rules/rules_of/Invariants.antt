-- The rules of the lines so far were made.
use Rattle.std.proofs.Common.{List, ℕ, map}
use Rattle.std.specs.Borrow.{Bor}
use Rattle.lexer.specs.Rules.{HasParsed}
use Rattle.lexer.proofs.rules.rules_of.Given as goal

abbrev pub invariant-loop-index : goal.invariant-loop-index
invariant-loop-index l = HasParsed (map (λ (line : Bor (List ℕ)). line.now) l.lines) l.index l.rules.items

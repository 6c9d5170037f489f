-- The tokens up to this place were printed.
use Rattle.std.proofs.Common.{◌≡◌, ◌≤◌, ◌-◌, List, length, true}
use Rattle.nfa_compiler.specs.Common.{Re, AreMeant, byte_syntax}
use Rattle.lexer.specs.Printed.{HasPrinted, position_if}
use Rattle.lexer.proofs.report.Report.print_tokens.Given as goal

abbrev pub invariant-loop-at : goal.invariant-loop-at
invariant-loop-at g l = record {
  within : l.at ≤ length l.self.text.now;
  printed : (res : List Re) → AreMeant byte_syntax l.fn.lexer res
      → HasPrinted res l.self.text.now l.self.style l.self.rules.now l.at true
      (g.W.Write.contents l.fn.out) (g.W.Write.contents l.out);
  position : l.position ≡ position_if l.self.style.positions l.self.text.now l.at;
  kept : l.lexer ≡ l.fn.lexer;
}

abbrev pub decreases-loop-at : goal.decreases-loop-at
decreases-loop-at g l = length l.self.text.now - l.at

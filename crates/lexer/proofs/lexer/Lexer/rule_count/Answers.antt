-- There are as many patterns as rules.
use Rattle.std.proofs.Common.{ap, arith, length}
use Rattle.lexer.proofs.PieceLemmas.{pattern-count}
use Rattle.lexer.proofs.lexer.Lexer.rule_count.Goals as goal

pub returns : goal.returns
returns c =
    let known = pattern-count _ c.self.inside.regex c.self.invariant in
    record {
      count = omega (arith, c.pattern_len.ensures, known.same, ap length c.self.view_is);
      small = omega (arith, c.pattern_len.ensures, known.same, known.small);
    }

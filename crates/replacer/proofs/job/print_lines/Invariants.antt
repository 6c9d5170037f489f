-- The lines so far were printed.
use Rattle.std.proofs.Common.{ℕ, List}
use Rattle.nfa_compiler.specs.Common.{Re, PatternHit}
use Rattle.nfa_engines.specs.Paths.{is_utf8_empty}
use Rattle.nfa_meta.specs.RegexState.{KeepsRegex}
use Rattle.replacer.specs.Printed.{HasWritten}
use Rattle.replacer.specs.Hits.{AreHitsOf, SearchesFor, Sought}
use Rattle.replacer.proofs.job.print_lines.Given as goal

abbrev pub invariant-loop-before : goal.invariant-loop-before
invariant-loop-before g l = record {
  printed : (sought : Sought) (res : List Re) (hits : List ℕ → List PatternHit)
      → SearchesFor sought res l.fn.regex.choice → AreHitsOf res (is_utf8_empty l.fn.regex.choice.nfa) hits
      → HasWritten l.fn.regex.choice.nfa.groups hits l.action l.fn.limit (g.R.Read.remaining l.fn.input)
      (g.R.Read.remaining l.input) (g.W.Write.contents l.fn.out) (g.W.Write.contents l.out) l.left;
  keeps : KeepsRegex l.fn.regex l.regex;
}

-- The lines so far were printed, and it is known whether one has a row.
use Rattle.nfa_paths.proofs.Common.{◌≡◌, List, flat_map, Appends}
use Rattle.log_extractor.specs.Several.{AreLinePatterns, LabelledPattern}
use Rattle.log_extractor.specs.Printed.{has_row, shown_line}
use Rattle.log_extractor.proofs.GoingLemmas.{Taken}
use Rattle.log_extractor.proofs.report.print_lines.Given as goal

abbrev pub invariant-loop-before : goal.invariant-loop-before
invariant-loop-before g l = record {
  printed : (ps : List LabelledPattern) → AreLinePatterns l.fn.rows.parsers ps
      → Taken (λ lines. Appends (g.W.Write.contents l.fn.out) (g.W.Write.contents l.out)
      (flat_map (shown_line l.output l.fn.rows.selection ps) lines)) (g.R.Read.remaining l.fn.input)
      (g.R.Read.remaining l.input);
  looked : (ps : List LabelledPattern) → AreLinePatterns l.fn.rows.parsers ps
      → Taken (λ lines. l.found ≡ has_row l.fn.rows.selection ps lines) (g.R.Read.remaining l.fn.input)
      (g.R.Read.remaining l.input);
  kept : l.rows ≡ l.fn.rows;
}

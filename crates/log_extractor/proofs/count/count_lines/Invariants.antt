-- The values of the lines so far were counted.
use Rattle.std.proofs.Common.{◌≡◌, ◌++◌, ℕ, List, flat_map}
use Rattle.log_extractor.specs.Counts.{IsTally, value_in}
use Rattle.log_extractor.specs.Several.{AreLinePatterns, LabelledPattern}
use Rattle.log_extractor.proofs.GoingLemmas.{Taken}
use Rattle.log_extractor.proofs.count.count_lines.Given as goal

abbrev pub invariant-loop-before : goal.invariant-loop-before
invariant-loop-before g l = record {
  counted : (ps : List LabelledPattern) → AreLinePatterns l.fn.rows.parsers ps → (values : List (List ℕ))
      → IsTally values l.fn.counts
      → Taken (λ lines. IsTally (values ++ flat_map (value_in l.fn.rows.selection ps l.column) lines) l.counts)
      (g.R.Read.remaining l.fn.input) (g.R.Read.remaining l.input);
  kept : l.rows ≡ l.fn.rows;
}

-- The first patterns do not match the line.
use Rattle.std.proofs.Common.{◌≡◌, List, drop, map, string_bytes}
use Rattle.log_extractor.specs.Several.{AreLinePatterns, LabelledPattern, row_of_first, labelled_text}
use Rattle.log_extractor.proofs.parsers.first_row.Given as goal

abbrev pub invariant-loop-number : goal.invariant-loop-number
invariant-loop-number l = record {
  kept : l.parsers ≡ l.fn.parsers;
  looked : (ps : List LabelledPattern) → AreLinePatterns (map labelled_text l.fn.parsers) ps
      → row_of_first l.several (map string_bytes l.names) ps l.line
      ≡ row_of_first l.several (map string_bytes l.names) (drop l.number ps) l.line;
}

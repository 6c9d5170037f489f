-- The names so far and those of the patterns that are left are the names of all.
use Rattle.std.proofs.Common.{◌≡◌, List, drop, map, string_bytes}
use Rattle.log_extractor.specs.Several.{AreLinePatterns, LabelledPattern, labelled_text, union_names, with_columns}
use Rattle.log_extractor.proofs.names.union_of.Given as goal

abbrev pub invariant-loop-labelled : goal.invariant-loop-labelled
invariant-loop-labelled l = (ps : List LabelledPattern) → AreLinePatterns (map labelled_text l.parsers) ps
    → union_names ps ≡ with_columns (map string_bytes l.names.items) (drop l.labelled-index ps)

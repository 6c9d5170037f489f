-- The columns so far have the first names.
use Rattle.std.proofs.Common.{◌≡◌, ℕ, List, Some, map, slice_get, string_bytes, take}
use Rattle.nfa_paths.specs.Common.{Bor}
use Rattle.log_extractor.proofs.asked.columns_of.Given as goal

abbrev pub invariant-loop-word : goal.invariant-loop-word
invariant-loop-word l = map (slice_get (map string_bytes l.names)) l.columns.items
    ≡ map (λ (word : Bor (List ℕ)). Some word.now) (take l.word-index l.words)

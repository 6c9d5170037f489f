-- The first names are others.
use Rattle.nfa_paths.proofs.Common.{bytes_eq, ◌≡◌, false, List, ℕ, map, take, string_bytes, list_any}
use Rattle.log_extractor.proofs.names.has_name.Given as goal

abbrev pub invariant-loop-other : goal.invariant-loop-other
invariant-loop-other l =
    list_any (λ (x : List ℕ). bytes_eq x l.name) (map string_bytes (take l.other-index l.names)) ≡ false

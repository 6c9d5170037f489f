-- the patterns so far are at their starts
use Rattle.nfa_paths.proofs.Common.{◌≡◌, ℕ, ◌<◌, map, length, vec_len, All, slice_index_or, node_of}
use Rattle.nfa_compiler.specs.Common.{empty, AreInRange, FitsIn, ArePatterns, explicit_slot, groups_of, res_of}
use Rattle.nfa_compiler.proofs.compiler.Compiler.add_patterns.Given as goal

abbrev pub invariant-loop-index : goal.invariant-loop-index
invariant-loop-index l = record {
  count : length l.starts.items ≡ l.index;
  slots_are : l.slots ≡ explicit_slot (groups_of l.patterns) l.index;
  made : ArePatterns (map node_of l.states.items) (groups_of l.patterns) l.starts.items (res_of l.patterns) l.index;
  range : AreInRange l.slots l.index (map node_of l.states.items);
  inside : All (λ s. s < vec_len l.states) l.starts.items;
  fit : (k : ℕ) → k < l.index → FitsIn l.self.config.size_limit (slice_index_or (res_of l.patterns) k empty);
}

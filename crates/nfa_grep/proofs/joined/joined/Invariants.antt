-- The trees so far were copied.
use Rattle.nfa_paths.proofs.Common.{◌≡◌, map, take}
use Rattle.nfa_compiler.specs.Common.{meaning, res_of}
use Rattle.nfa_grep.proofs.joined.joined.Given as goal

abbrev pub invariant-loop-tree : goal.invariant-loop-tree
invariant-loop-tree l = map meaning l.branches.items ≡ res_of (take l.tree-index l.trees)

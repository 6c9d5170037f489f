-- the names so far are those of the explicit groups
use Rattle.nfa_paths.proofs.Common.{◌≡◌, map, take, names_of}
use Rattle.nfa_compiler.specs.Common.{explicit_names}
use Rattle.nfa_compiler.proofs.groups.groups_of.Given as goal

abbrev pub invariant-loop-pattern : goal.invariant-loop-pattern
invariant-loop-pattern l = names_of l.names.items ≡ map explicit_names (take l.pattern-index l.patterns)

-- whether the patterns from the last one back begin so
use Rattle.nfa_paths.proofs.Common.{◌≡◌, drop}
use Rattle.nfa_compiler.specs.Common.{res_of, all_begin_at_start}
use Rattle.nfa_compiler.proofs.loops.all_begin_at_start.Given as goal

abbrev pub invariant-loop-index : goal.invariant-loop-index
invariant-loop-index l = l.all.begins_at_start ≡ all_begin_at_start (res_of (drop l.index l.patterns))

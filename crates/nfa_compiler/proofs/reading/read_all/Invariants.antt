-- the trees so far are read from their texts
use Rattle.nfa_paths.proofs.Common.{map, take, AllZip}
use Rattle.nfa_compiler.specs.Common.{IsTreeOf}
use Rattle.nfa_compiler.proofs.reading.read_all.Given as goal

abbrev pub invariant-loop-index : goal.invariant-loop-index
invariant-loop-index l =
    AllZip (IsTreeOf l.syntax) (map (λ text. text.now) (take l.index l.patterns)) l.trees.items

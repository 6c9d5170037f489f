-- The texts so far were read.
use Rattle.nfa_paths.proofs.Common.{map, take, AllZip}
use Rattle.nfa_grep.specs.Meant.{IsReadFrom}
use Rattle.nfa_grep.proofs.pattern.read_patterns.Given as goal

abbrev pub invariant-loop-text : goal.invariant-loop-text
invariant-loop-text l =
    AllZip (IsReadFrom l.options) (map (λ text. text.now) (take l.text-index l.texts)) l.trees.items

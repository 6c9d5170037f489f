-- Each part of the tree reads whole characters.
use Rattle.nfa_compiler.proofs.CharacterLemmas.{tree-matches-characters}
use Rattle.nfa_compiler.proofs.laws.trees_match_characters.Goals as goal

pub returns : goal.returns
returns c = λ tree. tree-matches-characters tree.hir

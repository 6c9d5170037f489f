-- The error is that of a text, or of the trees that were read.
use Rattle.nfa_paths.proofs.Common.{inr, IfErr-weaker}
use Rattle.nfa_grep.proofs.grep.Grep.new.Goals as goal

pub returns-clause-refused : goal.returns-clause-refused
returns-clause-refused c = IfErr-weaker c.of_trees.result _ _ (λ fault of. inr of) c.of_trees.ensures.refused

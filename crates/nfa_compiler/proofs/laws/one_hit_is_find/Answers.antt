-- One pattern is tried at the same positions.
use Rattle.nfa_compiler.proofs.AllSearchLemmas.{one-hit}
use Rattle.nfa_compiler.proofs.laws.one_hit_is_find.Goals as goal

pub returns : goal.returns
returns c = one-hit

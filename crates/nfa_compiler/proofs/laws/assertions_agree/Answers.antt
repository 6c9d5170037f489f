use Rattle.nfa_compiler.proofs.LookLemmas.{look-same}
use Rattle.nfa_compiler.proofs.laws.assertions_agree.Goals as goal

pub returns : goal.returns
returns c = look-same

-- A search has one pattern and one row of slots.
use Rattle.nfa_engines.proofs.MatchLemmas.{same-slots}
use Rattle.nfa_engines.proofs.laws.engines_agree.Goals as goal

pub returns : goal.returns
returns c = same-slots

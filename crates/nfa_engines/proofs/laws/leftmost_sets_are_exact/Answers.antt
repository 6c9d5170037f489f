-- What a leftmost first search makes of a set, exactly.
use Rattle.nfa_engines.proofs.FirstSetLemmas.{set-earliest, set-firsts}
use Rattle.nfa_engines.proofs.laws.leftmost_sets_are_exact.Goals as goal

pub returns : goal.returns
returns c = record {
  stays = λ nfa x earliest old new some h. h.gains.full some;
  firsts = set-firsts;
  earliest = set-earliest;
}

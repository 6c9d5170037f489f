-- A half answer is one, and has the pattern of the answer.
use Rattle.nfa_engines.proofs.MatchLemmas.{half-pattern-of, half-unique}
use Rattle.nfa_engines.proofs.laws.one_half_match.Goals as goal

pub returns : goal.returns
returns c = record { one = half-unique; pattern = half-pattern-of }

-- What ignores the flag says the same under any flag.
use Rattle.nfa_engines.proofs.FlagLemmas.{answers-under, found-under, match-under}
use Rattle.nfa_engines.proofs.laws.answers_agree_under_any_flag.Goals as goal

pub returns : goal.returns
returns c = record { found = found-under; answers = answers-under; matches = match-under }

-- If each accepting path writes its ends, no match is missed.
use Rattle.nfa_paths.proofs.Common.{false, LeftmostFirst}
use Rattle.nfa_engines.proofs.MatchLemmas.{none-is_no_path, none-starts_before}
use Rattle.nfa_engines.proofs.laws.no_gap.Goals as goal

pub returns : goal.returns
returns c = record { none = none-is_no_path LeftmostFirst false; start = none-starts_before }

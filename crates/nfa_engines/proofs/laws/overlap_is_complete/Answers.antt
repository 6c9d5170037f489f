-- Under all kinds a set gains each pattern that matches and for which it has room.
use Rattle.nfa_engines.proofs.MatchLemmas.{set-complete}
use Rattle.nfa_engines.proofs.laws.overlap_is_complete.Goals as goal

pub returns : goal.returns
returns c = record { below = λ nfa x old new h. h.gains.gained; all = set-complete }

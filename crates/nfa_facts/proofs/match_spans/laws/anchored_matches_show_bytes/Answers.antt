-- An anchored search is one scan, all of whose paths start there.
use Rattle.nfa_facts.proofs.MatchLemmas.{bytes-answered, no-bytes-shown}
use Rattle.nfa_facts.proofs.match_spans.laws.anchored_matches_show_bytes.Goals as goal

pub returns : goal.returns
returns c = record { some = bytes-answered; none = no-bytes-shown }

-- The search goes on from the next position.
use Rattle.nfa_meta.proofs.GoesOnLemmas.{goes-on, scan-first-start}
use Rattle.nfa_meta.proofs.laws.searches_go_on.Goals as goal

pub returns : goal.returns
returns c = record { goes_on = goes-on; first = scan-first-start }

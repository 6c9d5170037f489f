-- Assertions of bytes read only what is on both sides of a position.
use Rattle.nfa_engines.proofs.AlikeLemmas.{cut-alike, lines-alike, same-sides}
use Rattle.nfa_engines.proofs.laws.assertions_hold_alike.Goals as goal

pub returns : goal.returns
returns c = record { sides = same-sides; lines = lines-alike; cut_out = cut-alike }

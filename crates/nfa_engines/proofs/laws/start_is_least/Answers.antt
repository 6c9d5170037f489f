-- No accepting path with the end of the answer starts before it.
use Rattle.nfa_engines.proofs.FoundSpanLemmas.{least-earliest, least-first, least-of-all}
use Rattle.nfa_engines.proofs.laws.start_is_least.Goals as goal

pub returns : goal.returns
returns c = record { first = least-first; earliest = least-earliest; all = least-of-all }

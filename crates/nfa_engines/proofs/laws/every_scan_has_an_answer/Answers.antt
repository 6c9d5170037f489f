-- Every scan has an answer.
use Rattle.nfa_paths.proofs.ExistenceLemmas.{scan_answer-exists}
use Rattle.nfa_engines.proofs.laws.every_scan_has_an_answer.Goals as goal

pub returns : goal.returns
returns c = scan_answer-exists

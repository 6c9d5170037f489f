-- A scan has one answer.
use Rattle.nfa_paths.proofs.AnswerLemmas.{scan_answer-unique}
use Rattle.nfa_engines.proofs.laws.one_scan_answer.Goals as goal

pub returns : goal.returns
returns c = scan_answer-unique

-- Whether there is a match does not depend on the kind if matches may end anywhere, and is the same for both engines.
use Rattle.nfa_paths.proofs.Common.{LeftmostFirst, false}
use Rattle.nfa_paths.proofs.ExistenceLemmas.{scan_answers-agree, search_answers-agree}
use Rattle.nfa_engines.proofs.MatchLemmas.{found-pattern, found-unique}
use Rattle.nfa_engines.proofs.laws.is_match_agrees.Goals as goal

pub returns : goal.returns
returns c = record {
  scans = scan_answers-agree;
  searches = search_answers-agree;
  pattern = found-pattern;
  engines = λ nfa x found other. found-unique nfa x LeftmostFirst false found other;
}

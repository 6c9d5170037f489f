-- Each accepting path is a way.
use Rattle.nfa_facts.proofs.LawLemmas.{paths-recorded}
use Rattle.nfa_facts.proofs.match_spans.laws.match_spans_are_written.Goals as goal

pub returns : goal.returns
returns c = paths-recorded

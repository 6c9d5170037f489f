-- A search for this pattern only starts there.
use Rattle.nfa_facts.proofs.SearchLemmas.{IsStart-pattern}
use Rattle.nfa_facts.proofs.match_spans.spans.pattern_start.Goals as goal

pub returns-clause-start : goal.returns-clause-start
returns-clause-start c =
    IsStart-pattern c.args.nfa.now c.in_ok-new.field-0 c.start_pattern.result c.start_pattern.ensures.value

-- Each Match is of a pattern.
use Rattle.std.proofs.Common.{refl, arith}
use Rattle.nfa_facts.proofs.StatePathLemmas.{RecordsMatchSpans-each}
use Rattle.nfa_facts.proofs.match_spans.spans.records_match_spans.Goals as goal

pub returns-clause-records : goal.returns-clause-records
returns-clause-records c = (
  λ t. RecordsMatchSpans-each c.args.nfa.now c.pattern_len-pattern-end.ensures.valid
      (λ k h. c.loop-pattern.invariant k
      (omega (arith, c.loop-pattern-test.false, c.pattern_len-pattern-end.ensures.value))),
  λ all. refl,
)

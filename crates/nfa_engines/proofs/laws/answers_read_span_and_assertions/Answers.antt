-- Only the bytes of the span and the assertions that hold there matter, and not where it is.
use Rattle.nfa_engines.proofs.MovedAnswerLemmas.{match-movable, slots-movable}
use Rattle.nfa_engines.proofs.SpanLemmas.{cut-moves, span-moves, span-reads}
use Rattle.nfa_engines.proofs.laws.answers_read_span_and_assertions.Goals as goal

pub returns : goal.returns
returns c = record {
  same = λ pattern. span-reads (λ nfa k x y alike. alike) (slots-movable pattern);
  same_match = span-reads (λ nfa k x y alike. alike) match-movable;
  moved = λ pattern. span-moves (λ nfa k x y alike. alike) (slots-movable pattern);
  moved_match = span-moves (λ nfa k x y alike. alike) match-movable;
  cut_out = λ pattern. cut-moves (λ nfa k x y alike. alike) (slots-movable pattern);
  cut_out_match = cut-moves (λ nfa k x y alike. alike) match-movable;
}

-- Only the bytes of the span matter, and not where it is: without assertions, all that hold, hold alike.
use Rattle.nfa_engines.proofs.MovedAnswerLemmas.{match-movable, slots-movable}
use Rattle.nfa_engines.proofs.SpanLemmas.{cut-moves, no-look-alike, span-moves, span-reads}
use Rattle.nfa_engines.proofs.laws.answers_read_the_span.Goals as goal

pub returns : goal.returns
returns c = record {
  same = λ pattern. span-reads no-look-alike (slots-movable pattern);
  same_match = span-reads no-look-alike match-movable;
  moved = λ pattern. span-moves no-look-alike (slots-movable pattern);
  moved_match = span-moves no-look-alike match-movable;
  cut_out = λ pattern. cut-moves no-look-alike (slots-movable pattern);
  cut_out_match = cut-moves no-look-alike match-movable;
}

-- The answer is that of the search cut to its span.
use Rattle.nfa_engines.proofs.FoundSpanLemmas.{answer-span, end-cut, search-cut, span-cut, span-earliest}
use Rattle.nfa_engines.proofs.laws.answer_is_that_of_the_cut_span.Goals as goal

pub returns : goal.returns
returns c = record {
  end = end-cut;
  scan = span-cut;
  earliest = span-earliest;
  search = search-cut;
  answer = answer-span;
}

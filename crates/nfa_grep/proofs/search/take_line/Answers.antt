-- The line is taken as its groups take it.
use Rattle.nfa_grep.proofs.search.take_line.Goals as goal

pub returns-clause-taken : goal.returns-clause-taken
returns-clause-taken c = λ res meant. record {
  number_is = c.in-Some.ensures.number;
  offset_is = c.in-Some.ensures.offset;
  selected_is = c.in-Ok.ensures.selected res meant;
  printed_is = c.in-Ok.ensures.printed res meant;
  left_is = c.in-Ok.ensures.left;
}

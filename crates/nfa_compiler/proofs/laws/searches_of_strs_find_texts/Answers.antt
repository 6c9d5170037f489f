-- What is found ends on a boundary, so it starts on one.
use Rattle.nfa_compiler.proofs.SearchLemmas.{answer-is, match-is}
use Rattle.nfa_compiler.proofs.StrLemmas.{str-answered}
use Rattle.nfa_compiler.proofs.laws.searches_of_strs_find_texts.Goals as goal

pub returns-clause-answers : goal.returns-clause-answers
returns-clause-answers c =
    λ syntax texts res nfa kind earliest x pattern slots made meant mode how text starts answer.
    answer-is (str-answered syntax texts nfa made mode x how.whole text res meant starts) pattern slots
    (rw (how.leftmost, how.latest) at answer)

pub returns-clause-matches : goal.returns-clause-matches
returns-clause-matches c = λ syntax texts res nfa kind earliest x found made meant mode how text starts answer.
    match-is (str-answered syntax texts nfa made mode x how.whole text res meant starts) found
    (rw (how.leftmost, how.latest) at answer)

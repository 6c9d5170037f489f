-- The totals of both caches rise by at most the scans and turns of a whole list.
use Rattle.nfa_choice.proofs.FindLemmas.{rule_keeps}
use Rattle.nfa_choice.proofs.WorkLemmas.{back-runs, matches-within, pike-runs, rows-within}
use Rattle.nfa_choice.proofs.laws.lists_are_bounded.Goals as goal

pub returns-clause-matches : goal.returns-clause-matches
returns-clause-matches c = matches-within rule_keeps back-runs pike-runs

pub returns-clause-rows : goal.returns-clause-rows
returns-clause-rows c = rows-within rule_keeps back-runs pike-runs

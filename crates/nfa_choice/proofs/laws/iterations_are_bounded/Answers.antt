-- The totals of both caches rise by at most 2n + 3 scans, wherever an iteration stops.
use Rattle.nfa_choice.proofs.FindLemmas.{rule_keeps}
use Rattle.nfa_choice.proofs.WorkLemmas.{back-runs, captures-stay-within, finds-within, pike-runs}
use Rattle.nfa_choice.proofs.laws.iterations_are_bounded.Goals as goal

pub returns-clause-matches : goal.returns-clause-matches
returns-clause-matches c = finds-within rule_keeps back-runs pike-runs

pub returns-clause-rows : goal.returns-clause-rows
returns-clause-rows c = captures-stay-within rule_keeps back-runs pike-runs

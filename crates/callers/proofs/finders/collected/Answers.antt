-- The items are the list.
use Rattle.std.proofs.Common.{rules, ◌∙◌, ap}
use Rattle.callers.specs.EmptyFinder.{EmptyTells}
use Rattle.nfa_search_base.specs.IterStates.{fresh}
use Rattle.nfa_search_base.proofs.MayAnswerLemmas.{collected_as}
use Rattle.callers.proofs.finders.collected.Goals as goal

pub returns : goal.returns
returns c = collected_as EmptyTells _ c.collect.result c.collect.ensures.ran
    c.into_matches_iter-items.ensures.given.all (c.new-searcher.ensures ∙ ap fresh c.new-input.ensures)
    (λ t a f' found. search rules)

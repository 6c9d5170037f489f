-- A found match may be cut out of its haystack.
use Rattle.std.proofs.Common.{rules, ◌≡◌, ◌∙◌, ap, subst, refl, map, IfOk}
use Rattle.std.proofs.lemmas.Iterator.Consumers.{map_from_collect}
use Rattle.regex_search_core.specs.Found.{found_of}
use Rattle.nfa_search_base.specs.Common.{item_by, greedy, IterState, fresh, span_of}
use Rattle.nfa_search_base.proofs.StepLemmas.{AnswersAlong-by}
use Rattle.callers.specs.Pieces.{piece_answer}
use Rattle.callers.proofs.pieces.pieces.Goals as goal

pub returns : goal.returns
returns c =
    subst (λ (w : IterState). IfOk c.collect.result
    (λ v. map (item_by found_of) v.items ≡ greedy span_of (piece_answer c.args.len) w))
    (c.new-searcher.ensures ∙ ap fresh c.new-input.ensures)
    (map_from_collect c.collect.result c.collect.ensures.ran
    (c.into_matches_iter-items.ensures.list (piece_answer c.args.len)
    (AnswersAlong-by found_of _ (λ s a. a ≡ piece_answer c.args.len s) (λ q. q.0.now ≡ c.args.len) _ _ refl
    (λ q p same is. search rules) (λ q p reply q' same is called. (search rules, search rules)))))

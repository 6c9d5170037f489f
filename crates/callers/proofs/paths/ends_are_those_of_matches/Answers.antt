-- The law, of a searcher's iteration and of a half finder that answers the ends of h.
use Rattle.std.proofs.Common.{refl}
use Rattle.nfa_search_base.specs.Common.{answer_by, end_of, iter_state_of}
use Rattle.callers.proofs.paths.ends_are_those_of_matches.Goals as goal

pub returns : goal.returns
returns c = λ h inside.
    c.half_and_full_agree.ensures h (λ t. answer_by end_of (h t)) (iter_state_of c.args.searcher.now)
    (record { behind = c.args.searcher.now.ends_by; ordered = c.args.searcher.now.input.ordered })
    (record { inside = λ t _ _. inside t; ends = λ t _ _. refl })

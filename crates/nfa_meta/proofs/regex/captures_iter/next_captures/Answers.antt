-- A step may be made. It is a call that gives the captures which it leaves, if there is a match.
use Rattle.nfa_search_base.specs.Common.{with_cache}
use Rattle.nfa_choice.proofs.CapturesLemmas.{captures-lent, step-goes, steps-serve}
use Rattle.nfa_meta.specs.CapturesSteps.{captures_call}
use Rattle.nfa_meta.proofs.CaughtLemmas.{lent-none, lent-some, step-keeps}
use Rattle.nfa_meta.proofs.RegexLemmas.{regex_keeps}
use Rattle.nfa_meta.proofs.regex.captures_iter.next_captures.Goals as goal

pub advance_with-requires : goal.advance_with-requires
advance_with-requires c = steps-serve regex_keeps (with_cache c.args.steps.now c.args.regex.now) c.requires

pub returns-clause-some : goal.returns-clause-some
returns-clause-some c = λ yes.
    let from = with_cache c.args.steps.now c.args.regex.now in
    let to = with_cache c.advance_with.new.self c.advance_with.new.cache in
    lent-some to.done to.backend.backend.captures (λ item. captures_call from item to)
    (captures-lent regex_keeps from to c.advance_with.result c.advance_with.ensures) yes

pub returns-clause-none : goal.returns-clause-none
returns-clause-none c = λ no.
    let from = with_cache c.args.steps.now c.args.regex.now in
    let to = with_cache c.advance_with.new.self c.advance_with.new.cache in
    lent-none to.done to.backend.backend.captures (λ item. captures_call from item to)
    (captures-lent regex_keeps from to c.advance_with.result c.advance_with.ensures) no

pub returns-clause-groups : goal.returns-clause-groups
returns-clause-groups c =
    let from = with_cache c.args.steps.now c.args.regex.now in
    let to = with_cache c.advance_with.new.self c.advance_with.new.cache in
    step-goes regex_keeps from _ to
    (captures-lent regex_keeps from to c.advance_with.result c.advance_with.ensures) c.requires

pub returns-clause-keeps : goal.returns-clause-keeps
returns-clause-keeps c =
    let from = with_cache c.args.steps.now c.args.regex.now in
    let to = with_cache c.advance_with.new.self c.advance_with.new.cache in
    step-keeps c.args.regex from _ to
    (captures-lent regex_keeps from to c.advance_with.result c.advance_with.ensures)

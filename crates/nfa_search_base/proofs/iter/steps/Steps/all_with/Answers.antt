-- Each call gives one item more. The last one gave none, an error, or the item that could not be kept.
use Rattle.nfa_paths.proofs.Common.{inr, Ok, Some, map, err_from_is_err_and}
use Rattle.nfa_search_base.specs.Common.{with_cache, takes_steps, AnswerIsInside}
use Rattle.nfa_search_base.proofs.OkItemLemmas.{oked-more}
use Rattle.nfa_search_base.proofs.RunLemmas.{calls-led, yields-more}
use Rattle.nfa_search_base.proofs.StoredLemmas.{takes-progress}
use Rattle.nfa_search_base.proofs.iter.steps.Steps.all_with.Goals as goal

pub loop-item-preserved : goal.loop-item-preserved
loop-item-preserved g c =
    let a = g.A.FindWith in
    let calls = takes_steps a.span a.asks (λ q. a.gives q.backend) in
    let from = with_cache c.loop-item.self c.loop-item.cache in
    let to = with_cache c.next_with.new.self c.next_with.new.cache in
    let item = c.in_ok-item.field-0 in
    let more = yields-more calls (map Ok c.loop-item.all.items) (with_cache c.args.self.now c.args.cache.now) from to
    (Ok item) c.loop-item.invariant.ran (rw c.in_ok-item.was at c.in-Some.ensures) in
    let goes = takes-progress (record {
      accepts = a.accepts;
      asks = a.asks;
      span = a.span;
      gives = λ q. a.gives q.backend;
    }) (AnswerIsInside a.span) from to (Some c.in-Some.item) c.loop-item.invariant.can c.in-Some.ensures in
    record {
      ran = rw (c.in_ok-push.ensures.items, ← oked-more c.loop-item.all.items item) more;
      can = goes.keeps;
    }

pub returns-in_err-item-clause-errors : goal.returns-in_err-item-clause-errors
returns-in_err-item-clause-errors g c =
    let error = rw c.in_err-item.was at c.in-Some.ensures in
    let p = err_from_is_err_and c.from_residual.result c.from_residual.ensures.1 in
    rw (p.1, p.2) (inr (record {
      items = c.loop-item.all.items;
      last = with_cache c.loop-item.self c.loop-item.cache;
      ran = c.loop-item.invariant.ran;
      over = error;
    }))

pub returns-in_err-item-clause-calls : goal.returns-in_err-item-clause-calls
returns-in_err-item-clause-calls g c =
    calls-led c.loop-item.all.items _ c.next_with.result c.loop-item.invariant.ran c.next_with.ensures

pub returns-in_err-push-clause-calls : goal.returns-in_err-push-clause-calls
returns-in_err-push-clause-calls g c =
    calls-led c.loop-item.all.items _ c.next_with.result c.loop-item.invariant.ran c.next_with.ensures

pub returns-clause-calls : goal.returns-clause-calls
returns-clause-calls g c =
    calls-led c.loop-item.all.items _ c.next_with.result c.loop-item.invariant.ran c.next_with.ensures

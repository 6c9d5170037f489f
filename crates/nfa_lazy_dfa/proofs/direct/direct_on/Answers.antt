-- The scan goes on from each place at which it is not over.
use Rattle.nfa_paths.proofs.Common.{◌≤◌, arith, search_of}
use Rattle.nfa_lazy_dfa.proofs.DirectLemmas.{next-here}
use Rattle.nfa_lazy_dfa.proofs.ScanLemmas.{next-on}
use Rattle.nfa_lazy_dfa.proofs.direct.direct_on.Goals as goal

pub loop-least-init : goal.loop-least-init
loop-least-init c = record { at = c.requires.at; low = omega arith }

pub overflow_add-least : goal.overflow_add-least
overflow_add-least c =
    let x = search_of c.args.input.now in
    let high : c.loop-least.place.at ≤ x.end = c.loop-least.invariant.at.at.high in
    omega arith

pub loop-least-preserved : goal.loop-least-preserved
loop-least-preserved c =
    let low : c.loop-least.place.at ≤ c.direct-over.result.0.at = c.direct-over.ensures.low in
    record {
      at = next-on c.args.dfa.now (search_of c.args.input.now) c.args.cache.now c.direct-over.result.0
          c.direct-over.result.1 c.direct-over.ensures.next c.if-over.false;
      low = omega arith;
    }

pub loop-least-smaller : goal.loop-least-smaller
loop-least-smaller c =
    let x = search_of c.args.input.now in
    let high : c.loop-least.place.at ≤ x.end = c.loop-least.invariant.at.at.high in
    omega arith

pub returns-clause-next : goal.returns-clause-next
returns-clause-next c =
    next-here c.args.dfa.now (search_of c.args.input.now) c.args.cache.now c.loop-least.place c.loop-least.invariant.at

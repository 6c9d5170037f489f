-- A search that scans again while its answer ends inside a codepoint: what holds at each scan, and the result.
use Rattle.nfa_paths.proofs.Common.{◌∙◌, ◌+◌, ap, arith, refl, replicate, sym, None, Search}
use Rattle.nfa_paths.proofs.RestartLemmas.{bounded, discarded, restarted, restarts-begin, scan-start, settled-none, settled-some, splits, start-left}
use Rattle.nfa_backtrack.proofs.PassLemmas.{room-after}
use Rattle.nfa_backtrack.proofs.engine.BoundedBacktracker.search_from.Goals as goal

pub loop-half-init : goal.loop-half-init
loop-half-init c = record { restarts = rw c.requires.counted (restarts-begin c.requires.turned); size = refl }

pub scan-requires : goal.scan-requires
scan-requires c =
    let begun = c.loop-half.invariant.restarts.is in grind (arith, room-after, c.requires.room, begun)

-- ---- the scan is refused, or finds nothing

pub returns-in_err-half-clause-bounds : goal.returns-in_err-half-clause-bounds
returns-in_err-half-clause-bounds c = bounded c.loop-half.invariant.restarts c.scan.ensures.scans c.scan.ensures.turns

pub returns-in_default-clause-bounds : goal.returns-in_default-clause-bounds
returns-in_default-clause-bounds c = bounded c.loop-half.invariant.restarts c.scan.ensures.scans c.scan.ensures.turns

pub returns-in_default-clause-answer : goal.returns-in_default-clause-answer
returns-in_default-clause-answer c =
    settled-none c.loop-half.invariant.restarts (rw c.in_default.is at c.in_ok-half.ensures.answer) c.scan.ensures.scans

-- ---- what it finds may end where it does

pub returns-then-may_end_at-clause-bounds : goal.returns-then-may_end_at-clause-bounds
returns-then-may_end_at-clause-bounds c =
    bounded c.loop-half.invariant.restarts c.scan.ensures.scans c.scan.ensures.turns

pub returns-then-may_end_at-clause-last : goal.returns-then-may_end_at-clause-last
returns-then-may_end_at-clause-last c =
    c.start.ensures ∙ ap (λ (z : Search). z.start) (scan-start c.loop-half.invariant.restarts c.scan.ensures.scans)

pub returns-then-may_end_at-clause-answer : goal.returns-then-may_end_at-clause-answer
returns-then-may_end_at-clause-answer c =
    let finds = rw c.in-Some.is at c.in_ok-half.ensures.answer in
    let ends = rw (c.get_nfa.ensures, c.offset.ensures) at (c.may_end_at.ensures.counts c.if-may_end_at.true) in
    settled-some c.loop-half.invariant.restarts finds ends c.scan.ensures.scans (omega arith)

-- ---- it splits a codepoint

pub returns-then-is_anchored-clause-bounds : goal.returns-then-is_anchored-clause-bounds
returns-then-is_anchored-clause-bounds c =
    bounded c.loop-half.invariant.restarts c.scan.ensures.scans c.scan.ensures.turns

pub returns-then-is_anchored-clause-answer : goal.returns-then-is_anchored-clause-answer
returns-then-is_anchored-clause-answer c =
    let begun = c.loop-half.invariant.restarts in
    let finds = rw c.in-Some.is at c.in_ok-half.ensures.answer in
    let mode = rw c.get_nfa.ensures at (c.may_end_at.ensures.splits c.if-may_end_at.false) in
    let off = rw c.offset.ensures at (c.may_end_at.ensures.inside c.if-may_end_at.false) in
    let anchored = rw (c.is_anchored.ensures, c.get_anchored.ensures) at c.if-is_anchored.true in
    discarded begun (splits begun finds off) mode anchored c.scan.ensures.scans
    (c.unset.ensures ∙ ap (λ n. replicate n None) (sym c.unset.auto.slots))

pub set_start-requires : goal.set_start-requires
set_start-requires c = grind (arith, start-left)

pub loop-half-preserved : goal.loop-half-preserved
loop-half-preserved c =
    let begun = c.loop-half.invariant.restarts in
    let finds = rw c.in-Some.is at c.in_ok-half.ensures.answer in
    let mode = rw c.get_nfa.ensures at (c.may_end_at.ensures.splits c.if-may_end_at.false) in
    let off = rw c.offset.ensures at (c.may_end_at.ensures.inside c.if-may_end_at.false) in
    let free = rw (c.is_anchored.ensures, c.get_anchored.ensures) at c.if-is_anchored.false in
    record {
      restarts = rw c.scan.ensures.scans (restarted begun (splits begun finds off) mode free c.scan.ensures.turns
          (ap (λ n. n + 1) c.start-next.ensures) c.set_start.ensures);
      size = c.scan.ensures.size ∙ c.loop-half.invariant.size;
    }

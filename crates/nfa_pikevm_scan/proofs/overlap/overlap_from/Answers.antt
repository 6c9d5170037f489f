-- The set gains what the matches mean that are met, from position to position.
use Rattle.nfa_paths.proofs.Common.{Bool, arith, cases_Bool, cond, false, inl, inr, le-ltb, refl, search_of, true, ℕ, ◌+◌, ◌≤◌}
use Rattle.nfa_pikevm_scan.proofs.EndLemmas.{Stands-begin, Stands-may, Stands-next, joined-items}
use Rattle.nfa_pikevm_scan.proofs.FrontierLemmas.{AreAt-turns}
use Rattle.nfa_pikevm_scan.proofs.OverlapLemmas.{SoFar-found, SoFar-next, SoFar-over, SoFar-size, SoFar-start, set-stays}
use Rattle.nfa_pikevm_scan.proofs.RowLemmas.{none_of}
use Rattle.nfa_pikevm_scan.proofs.overlap.overlap_from.Goals as goal

-- a limit that falls to 0 or stays
limit-within : (b : Bool) (limit end : ℕ) → limit ≤ end + 1 → cond b 0 limit ≤ end + 1
limit-within true limit end within = omega arith
limit-within false limit end within = within

pub loop-at-init : goal.loop-at-init
loop-at-init c = record {
  stands = Stands-begin c.start-at.ensures c.requires.ready;
  state = c.requires.ready.starts.state;
  stop = refl;
  limit = c.requires.ready.starts.high;
  so_far = rw c.start-at.ensures
      (SoFar-start c.args.past_match _ c.requires.empty c.args.starts.now c.requires.ready.starts
      c.args.threads.now.reached.seen c.args.threads.now.curr.items c.requires.ready.curr);
  not_full = c.requires.not_full;
}

pub returns-then-is_empty-clause-gains : goal.returns-then-is_empty-clause-gains
returns-then-is_empty-clause-gains c = grind (arith, SoFar-over, joined-items, none_of)

pub nexts_overlapping-met-requires-clause-ready : goal.nexts_overlapping-met-requires-clause-ready
nexts_overlapping-met-requires-clause-ready c =
    Stands-may c.requires.ready c.loop-at.invariant.stands c.add_start.ensures c.loop-at.invariant.state
    (omega (arith, c.end-at-end.ensures.value, c.loop-at-test.true))

pub returns-then-is_over-clause-turns : goal.returns-then-is_over-clause-turns
returns-then-is_over-clause-turns c =
    let met = c.nexts_overlapping-met.ensures in
    AreAt-turns (omega (arith, c.end-at-end.ensures.value, c.loop-at-test.true)) c.requires.ready.span
    (Stands-next c.requires.ready c.loop-at.invariant.stands c.add_start.ensures met.keeps met.next
    met.crosses.gives).states

pub returns-then-is_over-clause-gains : goal.returns-then-is_over-clause-gains
returns-then-is_over-clause-gains c =
    let over = rw c.get_earliest-earliest.ensures at c.is_over.ensures.over c.if-is_over.true in
    let items = joined-items c.requires.ready c.loop-at.invariant.stands c.add_start.ensures in
    let crosses = rw (SoFar-size _ _ c.loop-at.invariant.so_far, c.add_start.ensures.seen, items)
    at c.nexts_overlapping-met.ensures.crosses in
    SoFar-found _ _ c.requires.empty c.loop-at.invariant.so_far crosses over.0 over.1

pub loop-at-preserved : goal.loop-at-preserved
loop-at-preserved c =
    let goes_on = rw c.get_earliest-earliest.ensures at c.is_over.ensures.goes_on c.if-is_over.false in
    let met = c.nexts_overlapping-met.ensures in
    let items = joined-items c.requires.ready c.loop-at.invariant.stands c.add_start.ensures in
    let crosses = rw (SoFar-size _ _ c.loop-at.invariant.so_far, c.add_start.ensures.seen, items) at met.crosses in
    record {
      stands = Stands-next c.requires.ready c.loop-at.invariant.stands c.add_start.ensures met.keeps met.next
          met.crosses.gives;
      state = c.loop-at.invariant.state;
      stop = c.loop-at.invariant.stop;
      limit = rw c.later_limit.ensures (limit-within _ c.loop-at.joining.limit (search_of c.args.input.now).end
          c.loop-at.invariant.limit);
      so_far = rw c.later_limit.ensures (SoFar-next _ _ _ c.requires.empty (λ met. (goes_on met).0)
          c.loop-at.invariant.so_far crosses);
      not_full = elim (cases_Bool c.nexts_overlapping-met.result) [
        | inl met ↦ (goes_on met).1
        | inr unmet ↦ rw (set-stays c.args.past_match crosses unmet) c.loop-at.invariant.not_full
      ];
    }

pub returns-clause-gains : goal.returns-clause-gains
returns-clause-gains c = grind (arith, SoFar-over, le-ltb)

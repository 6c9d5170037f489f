-- A scan of all matches answers the last one that is seen.
use Rattle.nfa_pikevm_scan.proofs.Common.{arith, inl, is_match, length, refl, search_of, sym, ◌+◌, ◌∙◌, ◌≤◌}
use Rattle.nfa_pikevm_scan.proofs.AllLemmas.{HasLast-cross, ScansAll-next}
use Rattle.nfa_pikevm_scan.proofs.EndLemmas.{HasLast-begin, ScansAll-begin, ScansAll-joined, ScansAll-over, Stands-begin, Stands-may, Stands-next, ends-at, joined-items, last-over}
use Rattle.nfa_pikevm_scan.proofs.RowLemmas.{none_of}
use Rattle.nfa_pikevm_scan.proofs.scan.scan_all.Goals as goal

pub loop-at-init : goal.loop-at-init
loop-at-init c =
    let ready = c.requires.ready in
    record {
      stands = Stands-begin c.start-at.ensures ready;
      scans = rw (c.start-at.ensures, ready.curr) (ScansAll-begin c.args.nfa.now (search_of c.args.input.now)
          c.args.starts.now ready.starts c.args.slots.now c.args.threads.now.reached.seen _);
      last = rw c.start-at.ensures (HasLast-begin c.args.nfa.now (search_of c.args.input.now) c.args.starts.now
          ready.starts c.args.slots.now c.args.threads.now.reached.seen ready.unset);
    }

pub returns-then-is_empty-clause-answer : goal.returns-then-is_empty-clause-answer
returns-then-is_empty-clause-answer c =
    let i = c.loop-at.invariant in
    let none = none_of c.add_start.new.threads.curr.items (c.is_empty.ensures.0 c.if-is_empty.true) in
    rw c.add_start.ensures.seen (last-over i.last (ScansAll-over c.args.starts.now i.scans
    (sym (joined-items c.requires.ready i.stands c.add_start.ensures) ∙ none) (λ v t. t)) (sym c.loop-at.auto.slots))

pub nexts-requires-clause-ready : goal.nexts-requires-clause-ready
nexts-requires-clause-ready c =
    rw c.loop-at.auto.slots (Stands-may c.requires.ready c.loop-at.invariant.stands c.add_start.ensures
    c.requires.ready.starts.state (omega (arith, c.end-at-end.ensures.value, c.loop-at-test.true)))

pub loop-at-preserved : goal.loop-at-preserved
loop-at-preserved c =
    let i = c.loop-at.invariant in
    let joined = ScansAll-joined c.args.starts.now i.scans in
    let crosses = rw (c.add_start.ensures.seen, joined-items c.requires.ready i.stands c.add_start.ensures)
    at c.nexts.ensures.crosses in
    record {
      stands = Stands-next c.requires.ready i.stands c.add_start.ensures c.nexts.ensures.keeps c.nexts.ensures.next
          c.nexts.ensures.crosses.gives;
      scans = ScansAll-next (is_match c.args.nfa.now) (λ v t. t) (length c.args.slots.now) c.args.starts.now.state
          c.args.starts.now.limit crosses.gives joined (inl refl);
      last = rw c.or-found.ensures (HasLast-cross crosses joined (rw c.add_start.ensures.seen at c.nexts.ensures.grows)
          c.half_at-hit.result c.half_at-hit.ensures i.last);
    }

pub returns-clause-answer : goal.returns-clause-answer
returns-clause-answer c =
    let past : c.end-at-end.result + 1 ≤ c.loop-at.at = c.loop-at-test.false in
    let within = c.loop-at.auto.at-end
    (omega (arith, c.start-at.ensures, c.end-at-end.ensures.value, c.requires.ready.span)) in
    last-over c.loop-at.invariant.last (ends-at c.args.nfa.now (search_of c.args.input.now) c.loop-at.at
    (omega (arith, c.end-at-end.ensures.value, within))) (sym c.loop-at.auto.slots)

-- A scan that ends at the first match that is seen answers the path with the least end.
use Rattle.nfa_paths.proofs.ScanAnswerLemmas.{scan_answer-none}
use Rattle.nfa_pikevm_scan.proofs.AllLemmas.{NoneBefore-cross, ScansAll-next}
use Rattle.nfa_pikevm_scan.proofs.EndLemmas.{NoneBefore-begin, ScansAll-begin, ScansAll-joined, ScansAll-over, Stands-begin, Stands-may, Stands-next, earliest-over, ends-at, joined-items}
use Rattle.nfa_pikevm_scan.proofs.FrontierLemmas.{AreAt-turns}
use Rattle.nfa_pikevm_scan.proofs.RowLemmas.{none_of}
use Rattle.nfa_pikevm_scan.proofs.ScanLemmas.{EndsAt-none}
use Rattle.nfa_pikevm_scan.proofs.scan.scan_earliest.Goals as goal
use Rattle.nfa_pikevm_scan.proofs.Common.{AllMatches, LeftmostFirst, arith, cond, inr, is_match, length, refl, search_of, sym, true, ◌+◌, ◌∙◌, ◌≤◌}

pub loop-at-init : goal.loop-at-init
loop-at-init c =
    let ready = c.requires.ready in
    record {
      stands = Stands-begin c.start-at.ensures ready;
      scans = rw (c.start-at.ensures, ready.curr) (ScansAll-begin c.args.nfa.now (search_of c.args.input.now)
          c.args.starts.now ready.starts c.args.slots.now c.args.threads.now.reached.seen _);
      none = rw c.start-at.ensures (NoneBefore-begin c.args.nfa.now (search_of c.args.input.now));
      same = refl;
    }

pub returns-then-is_empty-clause-answer : goal.returns-then-is_empty-clause-answer
returns-then-is_empty-clause-answer c =
    let i = c.loop-at.invariant in
    let none = none_of c.add_start.new.threads.curr.items (c.is_empty.ensures.0 c.if-is_empty.true) in (
      scan_answer-none c.args.nfa.now (search_of c.args.input.now) (cond c.args.past_match AllMatches LeftmostFirst)
          true i.none (ScansAll-over c.args.starts.now i.scans
          (sym (joined-items c.requires.ready i.stands c.add_start.ensures) ∙ none) (λ v t. t)),
      rw i.same c.requires.ready.unset,
    )

pub nexts-requires-clause-ready : goal.nexts-requires-clause-ready
nexts-requires-clause-ready c =
    rw c.loop-at.auto.slots (Stands-may c.requires.ready c.loop-at.invariant.stands c.add_start.ensures
    c.requires.ready.starts.state (omega (arith, c.end-at-end.ensures.value, c.loop-at-test.true)))

pub returns-then-is_some-clause-turns : goal.returns-then-is_some-clause-turns
returns-then-is_some-clause-turns c =
    AreAt-turns (omega (arith, c.end-at-end.ensures.value, c.loop-at-test.true)) c.requires.ready.span
    (Stands-next c.requires.ready c.loop-at.invariant.stands c.add_start.ensures c.nexts.ensures.keeps
    c.nexts.ensures.next c.nexts.ensures.crosses.gives).states

pub returns-then-is_some-clause-answer : goal.returns-then-is_some-clause-answer
returns-then-is_some-clause-answer c =
    let i = c.loop-at.invariant in
    let crosses = rw (c.add_start.ensures.seen, joined-items c.requires.ready i.stands c.add_start.ensures)
    at c.nexts.ensures.crosses in
    earliest-over crosses (ScansAll-joined c.args.starts.now i.scans) i.none c.half_at-hit.result
    c.half_at-hit.ensures (sym c.is_some.ensures ∙ c.if-is_some.true) (sym (c.nexts.auto.slots ∙ c.loop-at.auto.slots))

pub loop-at-preserved : goal.loop-at-preserved
loop-at-preserved c =
    let i = c.loop-at.invariant in
    let joined = ScansAll-joined c.args.starts.now i.scans in
    let crosses = rw (c.add_start.ensures.seen, joined-items c.requires.ready i.stands c.add_start.ensures)
    at c.nexts.ensures.crosses in
    let no_hit = EndsAt-none c.loop-at.at c.nexts.result c.half_at-hit.result c.half_at-hit.ensures
    (sym c.is_some.ensures ∙ c.if-is_some.false) in
    let hit = rw no_hit at crosses.is_hit in
    record {
      stands = Stands-next c.requires.ready i.stands c.add_start.ensures c.nexts.ensures.keeps c.nexts.ensures.next
          c.nexts.ensures.crosses.gives;
      scans = ScansAll-next (is_match c.args.nfa.now) (λ v t. t) (length c.args.slots.now) c.args.starts.now.state
          c.args.starts.now.limit crosses.gives joined (inr no_hit);
      none = NoneBefore-cross crosses joined no_hit i.none;
      same = hit.1 ∙ i.same;
    }

pub returns-clause-answer : goal.returns-clause-answer
returns-clause-answer c =
    let past : c.end-at-end.result + 1 ≤ c.loop-at.at = c.loop-at-test.false in
    let within = c.loop-at.auto.at-end
    (omega (arith, c.start-at.ensures, c.end-at-end.ensures.value, c.requires.ready.span)) in (
      scan_answer-none c.args.nfa.now (search_of c.args.input.now) (cond c.args.past_match AllMatches LeftmostFirst)
          true c.loop-at.invariant.none (ends-at c.args.nfa.now (search_of c.args.input.now) c.loop-at.at
          (omega (arith, c.end-at-end.ensures.value, within))),
      rw c.loop-at.invariant.same c.requires.ready.unset,
    )

-- A settled configuration ends the scan, and any other leads to the next one.
use Rattle.nfa_paths.proofs.Common.{◌≡◌, ◌≤◌, ◌-◌, ◌∙◌, ap, sym, subst, arith, option_map, half_found_of, number_of, search_of}
use Rattle.nfa_lazy_dfa.specs.Closures.{pattern_by_kind}
use Rattle.nfa_lazy_dfa.specs.Configurations.{Configuration, IsSettled, position_count}
use Rattle.nfa_lazy_dfa.proofs.ScanHalfLemmas.{scanned-more}
use Rattle.nfa_lazy_dfa.proofs.SettledLemmas.{settled-found}
use Rattle.nfa_lazy_dfa.proofs.determinize.scan.scan_half.Goals as goal

pub returns-then-is_settled-clause-steps : goal.returns-then-is_settled-clause-steps
returns-then-is_settled-clause-steps c =
    let nfa = c.args.nfa.now in
    let x = search_of c.args.input.now in
    let n = c.loop-at.at - x.start in
    let within : n ≤ position_count x = omega arith in
    ap (λ (d : Configuration). d.found) c.loop-at.invariant.is
    ∙ settled-found nfa x c.args.kind x.earliest n within
    (subst (IsSettled x.earliest) c.loop-at.invariant.is
    (rw c.deref.ensures.value at (c.is_settled.ensures c.if-is_settled.true)))

pub returns-then-is_settled-clause-answer : goal.returns-then-is_settled-clause-answer
returns-then-is_settled-clause-answer c = λ path answers.
    let x = search_of c.args.input.now in
    returns-then-is_settled-clause-steps c
    ∙ sym (c.steps_find_the_answer.ensures c.args.nfa.now x c.args.kind x.earliest path answers)

pub loop-at-preserved : goal.loop-at-preserved
loop-at-preserved c =
    let nfa = c.args.nfa.now in
    let x = search_of c.args.input.now in
    let kind = c.args.kind in
    let at = c.loop-at.at in
    let found = option_map half_found_of c.loop-at.found in
    let d : Configuration = record { states = c.loop-at.states.items; starts = c.loop-at.starts; found = found } in
    let here = c.in_ok-here.here.items in
    let low : x.start ≤ at = omega arith in
    let hit : option_map number_of c.pattern_by_kind-pattern.result ≡ pattern_by_kind nfa kind here =
    c.pattern_by_kind-pattern.ensures ∙ ap (pattern_by_kind nfa kind) c.deref-in-loop-at.ensures.value in
    record {
      is = rw (
        c.in_ok-states.ensures.step,
        c.byte_at.ensures,
        c.kept.ensures.kept,
        c.deref-in-loop-at-2.ensures.value,
        c.starts_after-starts.ensures,
        c.found_after-found.ensures,
        c.get_earliest.ensures,
        c.half_at.ensures,
        hit,
      )
          (scanned-more nfa kind x.earliest x at low d c.loop-at.invariant.is here c.in_ok-here.ensures.closure);
      below = c.in_ok-states.ensures.below;
    }

-- One slot more is always written; if all are, each match sets all groups.
use Rattle.nfa_paths.proofs.Common.{◌≡◌, ◌∙◌, IsTrue, ap, arith, below_more, length, slot_count}
use Rattle.nfa_meta.specs.AlwaysSet.{AlwaysWrites}
use Rattle.nfa_meta.proofs.AlwaysSetLemmas.{sets_groups}
use Rattle.nfa_meta.proofs.regex.unwritten.groups_always_set.Goals as goal

pub loop-slot-preserved : goal.loop-slot-preserved
loop-slot-preserved c =
    let yes : IsTrue c.in_ok-is_always_written.field-0 = grind (arith, c.if-not-branch.false) in
    below_more (AlwaysWrites c.args.nfa.now) c.loop-slot.slot c.loop-slot.invariant
    (c.in_ok-is_always_written.ensures yes)

pub returns : goal.returns
returns c =
    let nfa = c.args.nfa.now in
    let one : length nfa.patterns ≡ 1 = grind (arith, c.pattern_len.ensures.value, c.if-pattern_len-ne1.false) in
    sets_groups nfa c.slot_len-slots.result one
    (c.slot_len-slots.ensures.value ∙ ap slot_count c.group_info.ensures.value)
    (λ k less. c.loop-slot.invariant k (omega (arith, less, c.loop-slot-test.false)))

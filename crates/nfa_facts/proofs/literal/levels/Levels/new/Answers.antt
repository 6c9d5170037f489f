-- The levels so far are those of the NFA.
use Rattle.std.proofs.lemmas.List.{get_or-take, length-map, length-take}
use Rattle.nfa_paths.proofs.Common.{◌≡◌, ◌∙◌, ◌<◌, ◌≤◌, In, [], ap, arith, length, length-set, node_of, refl, subst, sym, take}
use Rattle.nfa_facts.specs.Reached.{Reach}
use Rattle.nfa_facts.proofs.NeedleLemmas.{ok-some-then}
use Rattle.nfa_facts.proofs.LevelLemmas.{climb-admits, climb-more, climb-none}
use Rattle.nfa_facts.proofs.literal.levels.Levels.new.Goals as goal

pub loop-count-init : goal.loop-count-init
loop-count-init c = record {
  many = grind arith;
  room = c.add.ensures.room ∙ ap (λ (r : Reach). r.room) c.in_ok-here.ensures
      ∙ sym (length-map c.states.result.now node_of) ∙ ap length c.states.ensures.nodes;
  climb = climb-none c.args.nfa.now _ c.add.new.self.states
      (subst (λ s. In s c.add.new.self.states) c.start_anchored.ensures.value c.in_ok-add.ensures.has);
}

pub loop-count-preserved : goal.loop-count-preserved
loop-count-preserved c =
    let before = c.loop-count.invariant in
    let filled = c.in_ok-is_full.ensures in
    let inside : c.loop-count.count < length c.loop-count.levels = omega (arith, before.many, c.loop-count-test.true) in
    record {
      many = length-set c.loop-count.levels c.loop-count.count c.fill.new.level ∙ before.many;
      room = c.fill.ensures.room;
      climb = climb-more c.args.nfa.now c.loop-count.levels c.fill.new.level c.loop-count.count
          c.loop-count.here.states c.fill.new.here.states c.fill.new.next.states inside before.climb filled.adds
          (filled.filled c.if-not-is_full.false);
    }

pub returns-then-not-is_full : goal.returns-then-not-is_full
returns-then-not-is_full c =
    let levels = c.loop-count.levels in
    let count = c.loop-count.count in
    let within : count ≤ length levels = omega (arith, c.loop-count.invariant.many, c.loop-count-test.true) in
    ok-some-then c.if_rare.result
    (λ l admits.
    climb-admits c.args.nfa.now levels (take count levels) count c.loop-count.here.states l
    (omega (arith, length-take count levels, within)) (λ t less. get_or-take count levels t [] less)
    c.loop-count.invariant.climb admits)
    c.if_rare.ensures

pub returns : goal.returns
returns c =
    let levels = c.loop-count.levels in
    let count : c.loop-count.count ≡ 8 = omega (arith, c.loop-count-test.false) in
    let within : length levels ≡ c.loop-count.count = omega (arith, c.loop-count.invariant.many) in
    ok-some-then c.if_rare-2.result
    (λ l admits.
    climb-admits c.args.nfa.now levels levels c.loop-count.count c.loop-count.here.states l within
    (λ t less. refl) c.loop-count.invariant.climb admits)
    c.if_rare-2.ensures

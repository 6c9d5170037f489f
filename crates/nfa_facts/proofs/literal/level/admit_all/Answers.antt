-- The bytes of each transition are added.
use Rattle.nfa_paths.proofs.Common.{◌≡◌, ◌∙◌, ◌<◌, ℕ, Transition, length, get_or, subst, arith, below_more, get_or_default, holds_byte, true}
use Rattle.nfa_facts.specs.Levels.{Has}
use Rattle.nfa_facts.proofs.LevelLemmas.{bytes-all}
use Rattle.nfa_facts.proofs.literal.level.admit_all.Goals as goal

pub loop-trans-preserved : goal.loop-trans-preserved
loop-trans-preserved c =
    let xs = c.args.transitions.now in
    let i = c.loop-trans.trans-index in
    let inside : i < length xs = c.loop-trans-test.true in
    let before = c.loop-trans.invariant in
    let new = c.admit.new.level in
    record {
      grows = record { still = λ b h. c.admit.ensures.grows.still b (before.grows.still b h) };
      done = λ k d h.
          let same : c.trans-item.result ≡ get_or xs i d = c.trans-item.is ∙ get_or_default xs i _ d inside in
          below_more (λ k. (b : ℕ) → holds_byte (get_or xs k d) b ≡ true → Has new b) i
          (λ k less b e. c.admit.ensures.grows.still b (before.done k d less b e))
          (subst (λ (t : Transition). (b : ℕ) → holds_byte t b ≡ true → Has new b) same c.admit.ensures.has) k h;
    }

pub returns-clause-has : goal.returns-clause-has
returns-clause-has c =
    bytes-all c.loop-trans.level c.args.transitions.now
    (λ k d h. c.loop-trans.invariant.done k d (omega (arith, c.loop-trans-test.false)))

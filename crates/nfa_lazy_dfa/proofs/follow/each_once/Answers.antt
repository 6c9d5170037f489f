-- A state that the list has further left is passed over.
use Rattle.nfa_paths.proofs.Common.{◌≡◌, ◌<◌, ◌++◌, ◌∷◌, [], length, arith, All-push}
use Rattle.nfa_lazy_dfa.proofs.OnceLemmas.{IsOnce-again, IsOnce-begin, IsOnce-fresh}
use Rattle.nfa_lazy_dfa.proofs.HeldLemmas.{IsHeld-again, IsHeld-begin, IsHeld-end, IsHeld-push}
use Rattle.nfa_lazy_dfa.proofs.follow.each_once.Goals as goal
use Rattle.nfa_lazy_dfa.proofs.follow.each_once.Goals.{then-see+in_ok-push, else-see}

pub loop-sid-init : goal.loop-sid-init
loop-sid-init c = rw (c.in_ok-seen.ensures, c.new-once.ensures.items) (record {
  once = IsOnce-begin c.args.nfa.now c.args.states.now;
  held = IsHeld-begin c.args.states.now;
  below = λ k d less. absurd (omega arith);
})

pub loop-sid-preserved : goal.loop-sid-preserved
loop-sid-preserved c =
    let nfa = c.args.nfa.now in
    let xs = c.args.states.now in
    let i = c.loop-sid.sid-index in
    let s = c.sid-item.result in
    let old = c.loop-sid.once.items in
    let seen = c.loop-sid.seen.items in
    let is = c.loop-sid.invariant.once in
    let below : s < length nfa.states =
    omega (arith, c.requires i s c.loop-sid-test.true, c.sid-item.is) in
    elim c.if-see.branch [
      | then-see+in_ok-push w ↦
          let items : w.push.new.self.items ≡ old ++ s ∷ [] = w.in_ok-push.ensures.items in
          rw (w.once-is, items, c.see.ensures.marked w.if-see.true) (record {
            once = IsOnce-fresh nfa xs i old seen is s c.loop-sid-test.true c.sid-item.is
                (c.see.ensures.fresh w.if-see.true);
            held = IsHeld-push xs i old s c.loop-sid-test.true c.sid-item.is c.loop-sid.invariant.held;
            below = All-push (λ s. s < length nfa.states) old s c.loop-sid.invariant.below below;
          })
      | else-see w ↦
          let inside : s < length seen = omega (arith, is.size) in
          rw (w.once-is, c.see.ensures.same w.if-see.false) (record {
            once = IsOnce-again nfa xs i old seen is s c.loop-sid-test.true c.sid-item.is inside
                (c.see.ensures.again w.if-see.false);
            held = IsHeld-again xs i old s c.loop-sid-test.true c.sid-item.is
                (is.marked s inside (c.see.ensures.again w.if-see.false)) c.loop-sid.invariant.held;
            below = c.loop-sid.invariant.below;
          })
    ]

pub returns-clause-held : goal.returns-clause-held
returns-clause-held c =
    IsHeld-end c.args.states.now c.loop-sid.once.items c.loop-sid.sid-index (omega arith) c.loop-sid.invariant.held

-- All alternatives but the first are pushed, or lead nowhere.
use Rattle.std.proofs.Common.{◌≡◌, ◌<◌, ℕ, suc, List, [], ◌∷◌, length, drop, drop-cons, get_or, arith, refl}
use Rattle.nfa_backtrack.proofs.AlternateLemmas.{PushesLive-none}
use Rattle.nfa_backtrack.proofs.alternates.push_alternates.Goals as goal
use Rattle.nfa_scan_core.proofs.TargetLemmas.{drop-low}

-- all are left
drop-length : (xs : List ℕ) → drop (length xs) xs ≡ []
drop-length [] = refl
drop-length (x ∷ xs) = drop-length xs

-- one more
drop-before : (xs : List ℕ) (left k s d : ℕ) → left ≡ suc k → k < length xs → s ≡ get_or xs k d
    → drop k xs ≡ s ∷ drop left xs
drop-before xs left k s d e inside is = rw (e, is) (drop-cons xs k d inside)

pub loop-left-init : goal.loop-left-init
loop-left-init c = record {
  inside = omega arith;
  none = λ e. cc;
  pushed = λ x is_place byte. rw (drop-length c.args.alternates.now)
      (PushesLive-none c.args.nfa.now x c.args.place c.args.stack.now.items);
}

pub loop-left-preserved : goal.loop-left-preserved
loop-left-preserved c = record {
  inside = omega (arith, c.loop-left.invariant.inside);
  none = λ e. omega arith;
  pushed = λ x is_place byte.
      rw (drop-before c.args.alternates.now c.loop-left.left _ _ _ (omega arith) (omega arith)
      c.index-alternates-left.is)
      (c.in_ok-push_live.ensures x _ c.args.stack.now.items is_place byte
      (c.loop-left.invariant.pushed x is_place byte));
}

pub returns : goal.returns
returns c = λ x is_place byte.
    rw (← drop-low c.args.alternates.now c.loop-left.left c.loop-left-test.false c.loop-left.invariant.none)
    (c.loop-left.invariant.pushed x is_place byte)

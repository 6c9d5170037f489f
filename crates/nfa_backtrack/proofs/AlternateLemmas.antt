-- Alternatives that are pushed, and those that lead nowhere.
use Rattle.nfa_paths.proofs.Common.{◌≡◌, ℕ, ◌<◌, inl, inr, List, [], ◌∷◌, ◌++◌, length, map, drop, refl, ap, arith, Some, None, slice_get, All-push, sum_by_push, Search, Automaton, Pair, edges_of, Slots, Task, ExploresTo, Capture, Union, Explore}
use Rattle.nfa_scan_core.specs.Marks.{Marks}
use Rattle.nfa_backtrack.specs.Walk.{frame_tries, stacked, IsFrame, IsByteStep, IsStatePos, Carries, Taken, TurnsLead, Walk, WalkAnswer, IsDeadEnd, HasAnswersOf, PushesLive}
use Rattle.nfa_backtrack.specs.declared.frame.StatePos.{StatePos}
use Rattle.nfa_backtrack.specs.declared.frame.Frame.{Frame}
use Rattle.nfa_backtrack.specs.declared.frame.Frame.TheVariants.{Step}
use Rattle.nfa_backtrack.proofs.StepLemmas.{reads-plain, stacked-push, step-edges, PaidFor-step}
use Rattle.nfa_backtrack.proofs.WalkLemmas.{no_path, Carries-plain, Carries-then}
use Rattle.nfa_scan_core.proofs.TargetLemmas.{first-drop}
use Rattle.nfa_paths.proofs.StartLemmas.{node_at-get}

module _ (nfa : Automaton) (x : Search) where
  -- a byte state that refuses the byte
  pub IsDeadEnd-byte : (s at : ℕ) → IsByteStep nfa x (s, at) None → IsDeadEnd nfa x (s, at)
  IsDeadEnd-byte s at b p =
      let node = node_at-get nfa s b.node b.is in
      no_path _ _ (rw (node, (reads-plain b.node b.reads).1) refl) (rw node (step-edges nfa x s at None b))

  -- a Capture before one
  pub IsDeadEnd-capture : (s at next slot : ℕ) → slice_get nfa.states s ≡ Some (Capture next slot)
      → IsDeadEnd nfa x (next, at) → IsDeadEnd nfa x (s, at)
  unfolding edges_of
  IsDeadEnd-capture s at next slot is dead p = grind (arith, node_at-get)

  -- work with the same first pair
  HasAnswersOf-after : (v : Pair) (work shorter : List Task) → HasAnswersOf nfa x work shorter
      → HasAnswersOf nfa x (Explore v ∷ work) (Explore v ∷ shorter)
  unfolding ExploresTo
  HasAnswersOf-after v work shorter stands left pairs slots g h =
      elim h [ inl hit ↦ inl hit | inr later ↦ inr (later.0, stands left pairs slots g later.1) ]

  -- a dead end as the first pair
  HasAnswersOf-dead : (v : Pair) (work shorter : List Task) → IsDeadEnd nfa x v → HasAnswersOf nfa x work shorter
      → HasAnswersOf nfa x (Explore v ∷ work) shorter
  unfolding ExploresTo
  HasAnswersOf-dead v work shorter dead stands left pairs slots g h =
      inr (λ p way. dead p way.path, stands left pairs slots g h)

  pub PushesLive-none : (place : StatePos) (stack : List Frame) → PushesLive nfa x place [] stack stack
  PushesLive-none place stack = grind arith

  module _ {place : StatePos} {rest : List ℕ} {stack after : List Frame} (l : PushesLive nfa x place rest stack after)
      (s : ℕ) where
    pub PushesLive-dead : IsDeadEnd nfa x (s, place.at) → PushesLive nfa x place (s ∷ rest) stack after
    PushesLive-dead dead = grind (arith, HasAnswersOf-dead)

    pub PushesLive-push : s < length nfa.states → IsStatePos nfa x place
        → PushesLive nfa x place (s ∷ rest) stack (after ++ Step s place.at place.row ∷ [])
    PushesLive-push below p = record {
      within = λ count all.
          All-push (IsFrame nfa x count) after (Step s place.at place.row) (l.within count all)
          (record { state = below; from = p.from; to = p.to; row = p.row });
      tried = omega (arith, l.tried, sum_by_push frame_tries after (Step s place.at place.row));
      follows = grind (arith, HasAnswersOf-after, stacked-push);
    }

  -- the same marks and slots, with less work
  Carries-stands : (m : Marks) (work shorter : List Task) (slots : Slots) → HasAnswersOf nfa x work shorter
      → Carries nfa x m work slots m shorter slots
  unfolding WalkAnswer
  Carries-stands m work shorter slots stands = grind arith

-- the turn at a union
pub TurnsLead-live : {nfa : Automaton} {x : Search} {place : StatePos} {a : Walk} {n : Marks}
    → Taken nfa x (place.sid, place.at) a.marks n → {alternates : List ℕ}
    → slice_get nfa.states place.sid ≡ Some (Union alternates) → {f : ℕ} → slice_get alternates 0 ≡ Some f
    → {after : List Frame} → PushesLive nfa x place (drop 1 alternates) a.stack after
    → IsStatePos nfa x (record place { sid = f })
    → TurnsLead nfa x (place.sid, place.at) (Some (record place { sid = f })) a
    (record a { stack = after; marks = n })
unfolding edges_of
TurnsLead-live {nfa} {x} {place} {a} {n} t {alternates} is {f} first {after} l goes = record {
  goes = goes;
  paid = PaidFor-step t (Union alternates) is after a.slots 1 (l.within (length a.slots))
      (omega (arith, l.tried, ap length (first-drop alternates f first)));
  follows = λ work.
      Carries-then
      (rw (ap (map {B = Pair} (λ q. (q, place.at))) (first-drop alternates f first)) at
      (Carries-plain t (stacked a.stack work) a.slots (Union alternates) is refl refl))
      (Carries-stands nfa x n _ _ a.slots (HasAnswersOf-after nfa x (f, place.at) _ _ (l.follows work)));
}

-- what the tests for dead ends cite
pub ruleset dead_ends = (IsDeadEnd-byte, IsDeadEnd-capture)

-- Applying frames of the stack.
use Rattle.nfa_paths.proofs.Common.{◌≡◌, ℕ, ◌+◌, List, [], ◌∷◌, ◌++◌, length, refl, ap, arith, length-set, Option, Some, None, All, IfSome, sum_by, All-pop, sum_by_push, Search, Automaton, Pair, Task, Slots}
use Rattle.nfa_scan_core.specs.Marks.{Marks}
use Rattle.nfa_backtrack.specs.Walk.{work_item, stacked, frame_tries, tasks_of, WritesSlot, AppliesFrame, IsStatePos, Carries, HasFrames, IsFrame, Resumes, TurnsLead, Walk}
use Rattle.nfa_backtrack.specs.declared.frame.StatePos.{StatePos}
use Rattle.nfa_backtrack.specs.declared.frame.Frame.{Frame}
use Rattle.nfa_backtrack.specs.declared.frame.Frame.TheVariants.{Step, Restore, Clear}
use Rattle.nfa_backtrack.proofs.WalkLemmas.{Carries-none, Carries-then, Carries-restore}
use Rattle.nfa_backtrack.proofs.StepLemmas.{stacked-push}

-- what applying a frame keeps
record Applied (frame : Frame) (slots : Slots) (place : Option StatePos) (after : Slots) : Type 0 where
  size : length after ≡ length slots
  tried : frame_tries frame ≡ length (tasks_of place)
  goes : (nfa : Automaton) (x : Search) (count : ℕ) → IsFrame nfa x count frame → IfSome place (IsStatePos nfa x)
  follows : (nfa : Automaton) (x : Search) (marks : Marks) (work : List Task)
      → Carries nfa x marks (work_item frame ∷ work) slots marks (tasks_of place ++ work) after

applied : (frame : Frame) (slots : Slots) (place : Option StatePos) (after : Slots)
    → AppliesFrame frame slots place after → Applied frame slots place after
applied (Step sid at row) slots place after u = rw (u.0, u.1) (record {
  size = refl;
  tried = refl;
  goes = λ nfa x count h. h;
  follows = λ nfa x marks work. Carries-none nfa x marks (work_item (Step sid at row) ∷ work) slots;
})
applied (Restore slot offset) slots place after u = rw (u.0, u.1) (record {
  size = length-set slots slot (Some offset);
  tried = refl;
  goes = λ nfa x count h. tt;
  follows = λ nfa x marks work. Carries-restore nfa x marks work slots slot (Some offset);
})
applied (Clear slot) slots place after u = rw (u.0, u.1) (record {
  size = length-set slots slot None;
  tried = refl;
  goes = λ nfa x count h. tt;
  follows = λ nfa x marks work. Carries-restore nfa x marks work slots slot None;
})

-- no frame, or one more
pub Resumes-none : (stack : List Frame) (slots : Slots) → Resumes stack slots None stack slots
Resumes-none stack slots = record {
  tried = omega arith;
  within = λ nfa x fits. (fits, tt);
  follows = λ nfa x marks work. Carries-none nfa x marks (stacked stack work) slots;
}

module _ (stack popped : List Frame) (frame : Frame) (slots after : Slots) (place : Option StatePos)
    (pop : stack ≡ popped ++ frame ∷ []) (u : AppliesFrame frame slots place after) where
  pub slots-unwound : All (WritesSlot (length slots)) stack → All (WritesSlot (length after)) popped
  slots-unwound fits =
      rw (applied frame slots place after u).size
      (All-pop (WritesSlot (length slots)) stack popped (Some frame) pop fits).0

  pub Resumes-popped : {whole : List Frame} {entry : Slots} → Resumes whole entry None stack slots
      → Resumes whole entry place popped after
  Resumes-popped r =
      let one = applied frame slots place after u in
      record {
        tried = omega (arith, r.tried, one.tried, ap (sum_by frame_tries) pop, sum_by_push frame_tries popped frame);
        within = λ nfa x fits.
            let both = All-pop (IsFrame nfa x (length slots)) stack popped (Some frame) pop (r.within nfa x fits).0 in
            (rw one.size both.0, one.goes nfa x (length slots) both.1);
        follows = λ nfa x marks work.
            Carries-then (rw (pop, stacked-push popped frame work) at (r.follows nfa x marks work))
            (one.follows nfa x marks (stacked popped work));
      }

-- after turns that lead nowhere
pub TurnsLead-resumed : {nfa : Automaton} {x : Search} {v : Pair} {old mid : Walk} {place : Option StatePos}
    {left : List Frame} {slots : Slots} → TurnsLead nfa x v None old mid → Resumes mid.stack mid.slots place left slots
    → HasFrames nfa x old → TurnsLead nfa x v place old (record { stack = left; marks = mid.marks; slots = slots })
TurnsLead-resumed {nfa} {x} {mid = mid} l r frames = record {
  goes = (r.within nfa x (l.paid.within frames)).1;
  paid = record {
    within = λ held. (r.within nfa x (l.paid.within held)).0;
    tried = omega (arith, l.paid.tried, r.tried);
  };
  follows = λ work. Carries-then (l.follows work) (r.follows nfa x mid.marks work);
}

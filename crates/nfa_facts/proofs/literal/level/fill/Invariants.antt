-- The states so far were followed.
use Rattle.nfa_paths.proofs.Common.{◌≡◌, ℕ, ◌<◌, ◌≤◌, get_or, length, node_at}
use Rattle.nfa_facts.specs.Levels.{IsFilled}
use Rattle.nfa_facts.specs.Reached.{AddsTo}
use Rattle.nfa_facts.proofs.literal.level.fill.Given as goal

abbrev pub invariant-loop-done : goal.invariant-loop-done
invariant-loop-done l = record {
  here_room : l.here.room ≡ length l.nfa.states;
  next_room : l.next.room ≡ length l.nfa.states;
  inside : l.done ≤ length l.here.states;
  adds : AddsTo l.fn.here.states l.here.states;
  filled : (k : ℕ) → k < l.done
      → IsFilled l.here.states l.next.states l.level (node_at l.nfa (get_or l.here.states k 0));
}

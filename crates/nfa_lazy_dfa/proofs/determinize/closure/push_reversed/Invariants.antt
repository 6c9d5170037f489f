-- What is on the stack, and the states that are left, reversed, are the whole.
use Rattle.std.proofs.Common.{◌≡◌, ◌≤◌, ◌++◌, length, reverse, take}
use Rattle.nfa_lazy_dfa.proofs.determinize.closure.push_reversed.Given as goal

abbrev pub invariant-loop-left : goal.invariant-loop-left
invariant-loop-left l = record {
  inside : l.left ≤ length l.states;
  pushed : l.waiting.items ++ reverse (take l.left l.states) ≡ l.fn.waiting.items ++ reverse l.states;
}

abbrev pub decreases-loop-left : goal.decreases-loop-left
decreases-loop-left l = l.left

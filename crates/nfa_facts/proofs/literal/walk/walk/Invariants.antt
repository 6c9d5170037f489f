-- The states so far were passed.
use Rattle.std.proofs.Common.{◌≡◌, ◌≤◌, length}
use Rattle.nfa_facts.specs.Walks.{IsUnderWay}
use Rattle.nfa_facts.proofs.literal.walk.walk.Given as goal

abbrev pub invariant-loop-done : goal.invariant-loop-done
invariant-loop-done l = record {
  room : l.reached.room ≡ length l.nfa.states;
  inside : l.done ≤ length l.reached.states;
  under_way : IsUnderWay l.nfa l.cut l.on_line l.done l.reached.states;
}

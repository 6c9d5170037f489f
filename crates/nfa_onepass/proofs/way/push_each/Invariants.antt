-- The states so far are on the stack.
use Rattle.std.proofs.Common.{◌≡◌, ◌++◌, take}
use Rattle.nfa_onepass.specs.Tables.{threads_at}
use Rattle.nfa_onepass.proofs.way.push_each.Given as goal

abbrev pub invariant-loop-sid : goal.invariant-loop-sid
invariant-loop-sid l = l.stack.items ≡ l.fn.stack.items ++ threads_at l.list (take l.sid-index l.states)

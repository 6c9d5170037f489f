-- Each way was found, or goes on from a thread on the stack.
use Rattle.nfa_paths.proofs.Common.{◌≡◌}
use Rattle.nfa_onepass.specs.Lists.{Keeps}
use Rattle.nfa_onepass.proofs.ClosureLemmas.{IsUnderWay}
use Rattle.nfa_onepass.proofs.way.only_way.Given as goal

abbrev pub invariant-turns : goal.invariant-turns
invariant-turns l = record {
  keeps : Keeps l.fn.lists.items.items l.lists.items.items;
  most : l.lists.most ≡ l.fn.lists.most;
  under_way : IsUnderWay l.nfa l.looks l.fn.sid l.byte l.lists.items.items l.stack.items l.found;
}

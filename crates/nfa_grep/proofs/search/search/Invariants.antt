-- The lines so far were printed.
use Rattle.std.proofs.Common.{◌≡◌, ◌≤◌, IfSome, List}
use Rattle.nfa_grep.specs.Going.{IsGoing, IsInOrder}
use Rattle.nfa_grep.specs.Meant.{Mean, Re}
use Rattle.nfa_grep.proofs.search.search.Given as goal

abbrev pub invariant-loop : goal.invariant-loop
invariant-loop g l = record {
  printed : (res : List Re) → Mean l.fn.grep res
      → IfSome (g.R.Read.remaining l.fn.input) (λ text. IsGoing l.fn.grep.options res
      l.request.name.now l.request.context l.request.used l.request.limit text (g.R.Read.remaining l.input)
      (g.W.Write.contents l.fn.out) (g.W.Write.contents l.out) l.at.number l.at.offset l.count l.groups);
  counted : l.count ≤ l.counter;
  kept : l.grep ≡ l.fn.grep;
  in_order : IsInOrder l.groups;
  context : l.groups.context ≡ l.request.context;
}

-- The count so far is that of the lines so far, and the engines are those of the start.
use Rattle.std.proofs.Common.{◌≡◌, take}
use Rattle.std.specs.List.{count_by}
use Rattle.nfa_engines.specs.Search.{whole}
use Rattle.nfa_choice.specs.ChoiceState.{KeepsEngines, finds_in}
use Rattle.callers.proofs.loops.count_by_choice.Given as goal

abbrev pub invariant-loop-line : goal.invariant-loop-line
invariant-loop-line l = record {
  count : l.count ≡ count_by (λ line. finds_in l.fn.choice (whole line.now)) (take l.line-index l.lines);
  keeps : KeepsEngines l.fn.choice l.choice;
}

-- What was picked so far is what matches of the lines so far.
use Rattle.std.proofs.Common.{◌≡◌, take}
use Rattle.std.specs.List.{filter}
use Rattle.nfa_choice.specs.ChoiceState.{KeepsEngines}
use Rattle.callers.specs.Lines.{matches}
use Rattle.callers.proofs.lines.matching.Given as goal

abbrev pub invariant-loop-line : goal.invariant-loop-line
invariant-loop-line l = record {
  picks : l.picked.items ≡ filter (matches l.fn.choice l.text) (take l.line-index l.lines);
  keeps : KeepsEngines l.fn.choice l.choice;
}

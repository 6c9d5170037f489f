-- Nothing matches before the position.
use Rattle.nfa_paths.proofs.Common.{◌+◌, ◌-◌, ◌≤◌, search_of}
use Rattle.nfa_engines.specs.StartLaws.{IsFirstStart}
use Rattle.nfa_meta.proofs.regex.Regex.next_start.Given as goal

abbrev pub invariant-loop-at : goal.invariant-loop-at
invariant-loop-at l = record {
  first : IsFirstStart l.self.choice.nfa (search_of l.input) l.at;
  within : l.at ≤ (search_of l.input).end + 1;
}

abbrev pub decreases-loop-at : goal.decreases-loop-at
decreases-loop-at l = (search_of l.input).end - l.at

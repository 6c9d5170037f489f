-- Nothing matches before the start.
use Rattle.nfa_paths.proofs.Common.{◌≡◌, ◌+◌, ◌≤◌, search_of}
use Rattle.nfa_engines.specs.StartLaws.{IsFirstStart}
use Rattle.nfa_meta.specs.RegexState.{KeepsRegex}
use Rattle.nfa_meta.proofs.regex.Regex.find_near_start.Given as goal

abbrev pub invariant-loop : goal.invariant-loop
invariant-loop l = record {
  same : l.self.choice ≡ l.fn.self.choice;
  keeps : KeepsRegex l.fn.self l.self;
  first : IsFirstStart l.fn.self.choice.nfa (search_of l.input) l.at;
  within : l.at ≤ (search_of l.input).end + 1;
}

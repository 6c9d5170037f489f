-- The matches of what is left are those of the input, and nothing matches before the position.
use Rattle.nfa_paths.proofs.Common.{◌≡◌, ◌+◌, ◌≤◌, false, search_of}
use Rattle.nfa_choice.specs.ChoiceState.{kind_in}
use Rattle.nfa_engines.specs.StartLaws.{IsFirstStart, StartsAnywhere}
use Rattle.nfa_meta.proofs.GoesOnLemmas.{HasMatchesOf}
use Rattle.nfa_meta.specs.RegexState.{KeepsRegex}
use Rattle.nfa_meta.proofs.regex.Regex.find_from.Given as goal

abbrev pub invariant-loop : goal.invariant-loop
invariant-loop l = record {
  same : l.self.choice ≡ l.fn.self.choice;
  keeps : KeepsRegex l.fn.self l.self;
  anywhere : StartsAnywhere l.fn.self.choice.nfa (search_of l.rest);
  last : (search_of l.rest).earliest ≡ false;
  first : IsFirstStart l.fn.self.choice.nfa (search_of l.rest) l.at;
  within : l.at ≤ (search_of l.rest).end + 1;
  on : HasMatchesOf l.fn.self.choice.nfa (kind_in l.fn.self.choice) (search_of l.fn.input) (search_of l.rest);
}

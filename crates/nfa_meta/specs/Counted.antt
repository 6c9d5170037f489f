-- How many matches there are.
use Rattle.std.specs.Prelude.{◌≡◌, ◌*◌, ℕ, List, length}
use Rattle.nfa_search_base.specs.Common.{AreMatches, Found, Search}
use Rattle.nfa_engines.specs.IterationLaws.{list_scan_limit}
use Rattle.nfa_choice.specs.ChoiceState.{kind_in}
use Rattle.nfa_meta.specs.RegexState.{RegexState}
use Rattle.nfa_meta.specs.Work.{WorksWithin}

-- There are this many matches of x, and each engine made no more scans than their list takes.
pub record CountsMatches (x : Search) (old new : RegexState) (count : ℕ) : Type 0 where
  pub all : List Found
  pub are_all : AreMatches old.choice.nfa (kind_in old.choice) x.earliest x all
  pub count_is : count ≡ length all
  pub list_work : WorksWithin (list_scan_limit old.choice.nfa x count) (2 * length old.choice.nfa.groups) x old new

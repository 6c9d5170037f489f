-- The names so far are those of the patterns.
use Rattle.std.proofs.Common.{◌≡◌, take}
use Rattle.regex_search_core.specs.Groups.{names_of}
use Rattle.nfa_samples.specs.StateTables.{groups_in}
use Rattle.nfa_samples.proofs.state_table.group_info.Given as goal

abbrev pub invariant-loop-pattern : goal.invariant-loop-pattern
invariant-loop-pattern l = names_of l.names.items ≡ groups_in (take l.pattern-index l.patterns)

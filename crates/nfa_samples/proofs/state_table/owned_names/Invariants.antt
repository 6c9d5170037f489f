-- The names so far are those of the groups.
use Rattle.std.proofs.Common.{◌≡◌, map, take, string_bytes, option_map}
use Rattle.nfa_samples.specs.StateTables.{names_in}
use Rattle.nfa_samples.proofs.state_table.owned_names.Given as goal

abbrev pub invariant-loop-name : goal.invariant-loop-name
invariant-loop-name l = map (option_map string_bytes) l.owned.items ≡ names_in (take l.name-index l.names)

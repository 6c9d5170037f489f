-- the names so far are equal
use Rattle.std.proofs.Common.{◌≡◌, map, take, option_map, string_bytes}
use Rattle.nfa_compiler.proofs.groups.names_of.Given as goal

abbrev pub invariant-loop-name : goal.invariant-loop-name
invariant-loop-name l =
    map (option_map string_bytes) l.copy.items ≡ map (option_map string_bytes) (take l.name-index l.names)

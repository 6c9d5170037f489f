-- The lines so far are those of the names so far.
use Rattle.std.proofs.Common.{◌≡◌, map, take}
use Rattle.std.specs.Prelude.{option_map, string_bytes}
use Rattle.nfa_c.specs.Names.{name_lines}
use Rattle.nfa_c.proofs.names.lines_of.Given as goal

abbrev pub invariant-loop-name : goal.invariant-loop-name
invariant-loop-name l =
    l.lines.items ≡ name_lines (map (option_map string_bytes) (take l.name-index l.names))

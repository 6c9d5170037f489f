-- An NFA with fewer captures.
use Rattle.std.specs.Prelude.{ℕ, List, [], ◌∷◌, Option, length, map, nat_lt, replicate, if◌then◌else◌}
use Rattle.nfa_paths.specs.Common.{slot_count, Automaton, Node, Capture, Union}
use Rattle.nfa_facts.specs.declared.captures.which.WhichCaptures.{WhichCaptures}
use Rattle.nfa_facts.specs.declared.captures.which.WhichCaptures.TheVariants as which

-- a Capture of a slot below `count`; another one leads on as before, and writes nothing
abbrev pub kept_node : ℕ → Node → Node
kept_node count (Capture next slot) = if nat_lt slot count then Capture next slot else Union (next ∷ [])
kept_node count node = node

-- the NFA with these groups, in place of those of which they are the first
abbrev pub with_groups : List (List (Option (List ℕ))) → Automaton → Automaton
with_groups groups nfa = record nfa { states = map (kept_node (slot_count groups)) nfa.states; groups = groups }

-- the groups that are kept: all explicit ones of each pattern, none of each pattern, or not even group 0
abbrev pub kept_groups : WhichCaptures → List (List (Option (List ℕ))) → List (List (Option (List ℕ)))
kept_groups which.All groups = groups
kept_groups which.Implicit groups = replicate (length groups) []
kept_groups which.None groups = []

-- the NFA with only these captures
unfoldable pub with_captures : WhichCaptures → Automaton → Automaton
with_captures which nfa = with_groups (kept_groups which nfa.groups) nfa

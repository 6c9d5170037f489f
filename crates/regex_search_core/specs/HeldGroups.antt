-- the groups that captures hold
use Rattle.std.specs.Prelude.{ℕ, List, Option}
use Rattle.std.specs.Arc.{arc_value}
use Rattle.regex_search_core.specs.declared.captures.held_groups.HeldGroups.{HeldGroups}
use Rattle.regex_search_core.specs.declared.captures.held_groups.HeldGroups.TheVariants.{Owned, Shared}

-- the groups, whether they are shared with copies of the captures or not
abbrev pub held_groups : HeldGroups → List (List (Option (List ℕ)))
held_groups (Owned groups) = groups
held_groups (Shared groups) = arc_value groups

-- iterators over sets of patterns
use Rattle.std.specs.Prelude.{ℕ, List, drop}
use Rattle.regex_search_core.specs.PatternSets.{places_from}
use Rattle.regex_search_core.specs.declared.pattern_set.PatternSetIter.{PatternSetIter}

-- the patterns still to come, in ascending order
abbrev pub patterns_left : PatternSetIter → List ℕ
patterns_left s = places_from s.next (drop s.next s.which.now)

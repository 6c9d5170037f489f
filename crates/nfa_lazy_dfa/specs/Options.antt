-- The options of a lazy DFA that were set.
use Rattle.std.specs.Prelude.{ℕ, Option}
use Rattle.nfa_paths.specs.Common.{MatchKind}

-- The match kind, the bytes that the rows of a cache may take, and how often a search may clear them. `None` there is
-- no limit.
pub record Options : Type 0 where
  pub match_kind : Option MatchKind
  pub cache_capacity : Option ℕ
  pub minimum_cache_clear_count : Option (Option ℕ)

-- What a configuration lets the searches of a lazy DFA do: how many bytes rows take, and how often they are cleared.
use Rattle.std.specs.Prelude.{ℕ, ◌-◌, ◌^◌, Option, Some, unwrap_or}
use Rattle.nfa_lazy_dfa.specs.Configs.{default_capacity, default_clears}
use Rattle.nfa_lazy_dfa.specs.Options.{Options}

-- the bytes that the rows of a cache may take: the number that is set, or the default
abbrev pub capacity_in : Options → ℕ
capacity_in o = unwrap_or o.cache_capacity default_capacity

-- how often a search may clear its cache: what is set, or the default. `None` is no limit.
abbrev pub clears_in : Options → Option ℕ
clears_in o = unwrap_or o.minimum_cache_clear_count (Some default_clears)

-- the same as a number: no limit is the maximum `usize`
abbrev pub max_clears_in : Options → ℕ
max_clears_in o = unwrap_or (clears_in o) (2 ^ 64 - 1)

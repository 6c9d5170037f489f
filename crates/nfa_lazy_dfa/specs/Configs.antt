-- The configuration of a lazy DFA, and what is read from it.
use Rattle.std.specs.Prelude.{ℕ, None, unwrap_or}
use Rattle.nfa_paths.specs.Common.{option_or, MatchKind, Automaton, LeftmostFirst}
use Rattle.nfa_lazy_dfa.specs.Options.{Options}
use Rattle.nfa_lazy_dfa.specs.declared.dfa.DFA.{DFA}

-- nothing is set
abbrev pub unset : Options
unset = record { match_kind = None; cache_capacity = None; minimum_cache_clear_count = None }

-- the newer options; those that they leave unset are the older ones
abbrev pub newer_or : Options → Options → Options
newer_or newer older = record {
  match_kind = option_or newer.match_kind older.match_kind;
  cache_capacity = option_or newer.cache_capacity older.cache_capacity;
  minimum_cache_clear_count = option_or newer.minimum_cache_clear_count older.minimum_cache_clear_count;
}

-- the bytes that the rows of a cache may take by default
abbrev pub default_capacity : ℕ
default_capacity = 2_097_152

-- how often a search may clear its cache by default
abbrev pub default_clears : ℕ
default_clears = 3

-- the match kind that is set, by default leftmost first
abbrev pub kind_in : Options → MatchKind
kind_in o = unwrap_or o.match_kind LeftmostFirst

-- the NFA of a DFA
abbrev pub nfa_of : DFA → Automaton
nfa_of dfa = dfa.nfa

-- the match kind that a DFA searches with
abbrev pub kind_of : DFA → MatchKind
kind_of dfa = dfa.kind

-- the configuration of a DFA
abbrev pub config_of : DFA → Options
config_of dfa = dfa.config

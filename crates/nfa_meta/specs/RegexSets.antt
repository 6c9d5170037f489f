-- A set of patterns before its first search.
use Rattle.std.specs.Prelude.{◌≡◌, ℕ, Bool, false, List, length, None, replicate}
use Rattle.nfa_paths.specs.Common.{Automaton}
use Rattle.nfa_lazy_dfa.specs.Limits.{capacity_in}
use Rattle.nfa_pikevm.specs.Engines.{cache_for}
use Rattle.nfa_choice.specs.HybridState.{HybridState, KeepsHybrid}
use Rattle.nfa_meta.specs.RegexState.{row_capacity}
use Rattle.nfa_meta.specs.declared.builder.Config.{Config}

-- what its engine shows, and the texts that it was built of
pub record SetState : Type 0 where
  pub engine : HybridState
  pub texts : List (List ℕ)

-- what a search keeps
pub record KeepsSet (old new : SetState) : Type 0 where
  pub engine : KeepsHybrid old.engine new.engine
  pub texts : new.texts ≡ old.texts

-- the set has these settings and has not searched yet: the cache of its PikeVM is as it was made, and its lazy DFA
-- has no rows
pub record IsNewSet (settings : Config) (s : SetState) : Type 0 where
  pub capacity : capacity_in s.engine.config ≡ row_capacity settings
  pub rows : s.engine.rows ≡ 0
  pub pike : s.engine.pike ≡ cache_for s.engine.nfa
  pub ran : s.engine.ran ≡ None

-- no pattern of the NFA
abbrev pub no_pattern : Automaton → List Bool
no_pattern nfa = replicate (length nfa.patterns) false

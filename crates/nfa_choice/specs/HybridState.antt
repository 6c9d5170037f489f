-- An engine over a lazy DFA and a PikeVM as a value, and which of the two ran.
use Rattle.std.specs.Prelude.{◌≡◌, ◌⊎◌, ℕ, ◌+◌, ◌-◌, ◌*◌, ◌^◌, ◌≤◌, Bool, false, List, Option, Some, min}
use Rattle.regex_search_core.specs.declared.search.MatchKind.TheVariants.{All}
use Rattle.nfa_search_base.specs.Common.{Search, MatchKind, Automaton, IsWork, max_scans, span_len, total_degree, finds}
use Rattle.nfa_pikevm.specs.Engines.{AddsPikeWork, Pike, PikeCache, SameCapacities, pike_memory_of}
use Rattle.nfa_pikevm.specs.Needs.{overlap_scans}
use Rattle.nfa_lazy_dfa.specs.Configs.{kind_in as kind_set}
use Rattle.nfa_lazy_dfa.specs.Options.{Options}
use Rattle.nfa_choice.specs.declared.hybrid.Engine.{Engine}
use Rattle.nfa_choice.specs.declared.hybrid.Engine.TheVariants as engine

-- an NFA, the configuration of both engines, the bytes that the rows of the lazy DFA take, what the PikeVM's cache
-- shows, and which engine gave the last answer
pub record HybridState : Type 0 where
  pub nfa : Automaton
  pub config : Options
  pub rows : ℕ
  pub pike : PikeCache
  pub ran : Option Engine

-- its PikeVM, which answers as it does
abbrev pub pike_of : HybridState → Pike
pike_of h = record { nfa = h.nfa; match_kind = h.config.match_kind }

-- the match kind that both engines search with
abbrev pub kind_in : HybridState → MatchKind
kind_in h = kind_set h.config

-- the bytes of both caches, or the maximum `usize` if they are more
abbrev pub bytes_of : HybridState → ℕ
bytes_of h = min (h.rows + pike_memory_of h.pike) (2 ^ 64 - 1)

-- whether a search without `earliest` finds a match
abbrev pub finds_in : HybridState → Search → Bool
finds_in h x = finds h.nfa (kind_in h) false x

-- the lazy DFA answered, and the PikeVM did not search
pub record DfaRan (old new : HybridState) : Type 0 where
  pub ran : new.ran ≡ Some engine.LazyDFA
  pub pike : new.pike ≡ old.pike

-- `earliest` is the flag of the PikeVM's search.
module _ (x : Search) (earliest : Bool) where
  -- the lazy DFA stopped, and the PikeVM answered by a search of the whole span
  pub record PikeRanAfterDfa (old new : HybridState) : Type 0 where
    pub ran : new.ran ≡ Some engine.PikeVM
    pub work : AddsPikeWork old.pike new.pike
    pub exact : IsWork old.nfa (kind_in old) earliest x new.pike.scans new.pike.turns
    pub scans : new.pike.scans ≤ max_scans old.nfa x
    pub turns : new.pike.turns ≤ new.pike.scans * ((1 + total_degree old.nfa) * (span_len x + 1))

  -- one of the two answered
  abbrev pub RunsInTurn : HybridState → HybridState → Type 0
  RunsInTurn old new = DfaRan old new ⊎ PikeRanAfterDfa old new

-- `set` is the set of patterns before the search.
module _ (x : Search) (set : List Bool) where
  -- the PikeVM added the patterns: by one scan, or under leftmost first by none if the set holds a pattern
  pub record PikeRanForSet (old new : HybridState) : Type 0 where
    pub ran : new.ran ≡ Some engine.PikeVM
    pub work : AddsPikeWork old.pike new.pike
    pub scans : new.pike.scans ≡ overlap_scans (kind_in old) set
    pub turns : new.pike.turns ≤ new.pike.scans * ((1 + total_degree old.nfa) * (span_len x + 1))

  -- for `All` one of the two added them
  abbrev pub SetRunsInTurn : HybridState → HybridState → Type 0
  SetRunsInTurn old new = (DfaRan old new × (kind_in old ≡ All)) ⊎ PikeRanForSet old new

-- all that a search leaves unchanged
pub record KeepsHybrid (old new : HybridState) : Type 0 where
  pub nfa : new.nfa ≡ old.nfa
  pub config : new.config ≡ old.config
  pub capacities : SameCapacities old.pike new.pike

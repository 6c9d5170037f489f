-- An engine over two others as a value, and the rule that picks one of the two for a search.
use Rattle.std.specs.Prelude.{◌≡◌, ◌⊎◌, ◌+◌, ◌*◌, ◌≤◌, ℕ, List, Bool, true, false, ◌&&◌, not, nat_le, MatchBool, Option, Some, ◌-◌, ◌^◌, min, unwrap_or}
use Rattle.regex_search_core.specs.declared.search.MatchKind.TheVariants.{All}
use Rattle.nfa_backtrack.specs.Backtrack.{Backtracker, BacktrackCache, AddsBacktrackWork, CountsAnswer, CountsRefusal, GrowsBlocks, max_haystack_len_of, memory_of}
use Rattle.nfa_search_base.specs.Common.{Search, MatchKind, Automaton, span_len, max_scans, total_degree, IsWork, IsWithinScans, LeftmostFirst, finds}
use Rattle.nfa_pikevm.specs.Engines.{Fits, Pike, PikeCache, AddsPikeWork, SameCapacities, pike_memory_of}
use Rattle.nfa_pikevm.specs.Needs.{overlap_scans}
use Rattle.nfa_choice.specs.declared.choose.Engine.{Engine}
use Rattle.nfa_choice.specs.declared.choose.Engine.TheVariants as engine

-- an NFA, the settings of the two engines, what their caches show, and which engine gave the last answer
pub record ChoiceState : Type 0 where
  pub nfa : Automaton
  pub visited_capacity : Option ℕ
  pub match_kind : Option MatchKind
  pub back : BacktrackCache
  pub pike : PikeCache
  pub ran : Option Engine

-- its backtracker
abbrev pub backtracker_of : ChoiceState → Backtracker
backtracker_of c = record { nfa = c.nfa; visited_capacity = c.visited_capacity }

-- its PikeVM, which defines its answers
abbrev pub pike_of : ChoiceState → Pike
pike_of c = record { nfa = c.nfa; match_kind = c.match_kind }

-- the bytes of both caches, or the maximum `usize` if they are more
abbrev pub bytes_of : ChoiceState → ℕ
bytes_of c = min (memory_of c.back + pike_memory_of c.pike) (2 ^ 64 - 1)

-- the match kind that it searches with
abbrev pub kind_in : ChoiceState → MatchKind
kind_in c = unwrap_or c.match_kind LeftmostFirst

-- whether a search without `earliest` finds a match
abbrev pub finds_in : ChoiceState → Search → Bool
finds_in c x = finds c.nfa (kind_in c) false x

-- whether the kind is leftmost first
abbrev pub is_leftmost_first : MatchKind → Bool
is_leftmost_first LeftmostFirst = true
is_leftmost_first All = false

-- the search is one for the backtracker: leftmost first, without `earliest`, and of a span that is short enough
abbrev pub is_for_backtracker : ChoiceState → Search → Bool
is_for_backtracker c x = is_leftmost_first (kind_in c) &&
    (not x.earliest && nat_le (span_len x) (max_haystack_len_of (backtracker_of c)))

-- the scans and turns of a search of x are within its bounds
pub record AreWithinBounds (nfa : Automaton) (x : Search) (scanned turned : ℕ) : Type 0 where
  pub scans : scanned ≤ max_scans nfa x
  pub turns : turned ≤ scanned * ((1 + total_degree nfa) * (span_len x + 1))

-- `earliest` is the flag of the PikeVM's search.
module _ (x : Search) (earliest : Bool) where
  -- the backtracker answered, and the PikeVM did not search
  pub record BacktrackerRan (old new : ChoiceState) : Type 0 where
    pub counts : CountsAnswer old.back new.back
    pub work : AddsBacktrackWork old.back new.back
    pub exact : IsWork old.nfa LeftmostFirst false x new.back.scans new.back.turns
    pub bounded : AreWithinBounds old.nfa x new.back.scans new.back.turns
    pub blocks : GrowsBlocks old.nfa x old.back.blocks new.back.blocks
    pub ran : new.ran ≡ Some engine.Backtracker
    pub pike : new.pike ≡ old.pike

  -- the backtracker refused, and the PikeVM answered
  pub record FellBackToPike (old new : ChoiceState) : Type 0 where
    pub counts : CountsRefusal old.back new.back
    pub tried : AddsBacktrackWork old.back new.back
    pub tried_within : IsWithinScans old.nfa LeftmostFirst false x new.back.scans
    pub tried_bounded : AreWithinBounds old.nfa x new.back.scans new.back.turns
    pub blocks : GrowsBlocks old.nfa x old.back.blocks new.back.blocks
    pub work : AddsPikeWork old.pike new.pike
    pub exact : IsWork old.nfa (kind_in old) earliest x new.pike.scans new.pike.turns
    pub bounded : AreWithinBounds old.nfa x new.pike.scans new.pike.turns
    pub ran : new.ran ≡ Some engine.PikeVM

  -- the PikeVM answered, and the backtracker did not search
  pub record PikeRan (old new : ChoiceState) : Type 0 where
    pub back : new.back ≡ old.back
    pub work : AddsPikeWork old.pike new.pike
    pub exact : IsWork old.nfa (kind_in old) earliest x new.pike.scans new.pike.turns
    pub bounded : AreWithinBounds old.nfa x new.pike.scans new.pike.turns
    pub ran : new.ran ≡ Some engine.PikeVM

-- the engine that ran, by the rule
abbrev pub RunsByRule : ChoiceState → Search → Bool → ChoiceState → Type 0
RunsByRule old x earliest new = MatchBool (is_for_backtracker old x)
    (BacktrackerRan x earliest old new ⊎ FellBackToPike x earliest old new)
    (PikeRan x earliest old new)

-- the same, for a search with its own flag
abbrev pub SearchedByRule : Search → ChoiceState → ChoiceState → Type 0
SearchedByRule x old new = RunsByRule old x x.earliest new

-- The PikeVM added the patterns of x to a set that was `set`: by one scan, or under leftmost first by none if the set
-- held a pattern.
pub record AddsByPike (x : Search) (set : List Bool) (old new : ChoiceState) : Type 0 where
  pub ran : new.ran ≡ Some engine.PikeVM
  pub back : new.back ≡ old.back
  pub total : AddsPikeWork old.pike new.pike
  pub scans : new.pike.scans ≡ overlap_scans (kind_in old) set
  pub turns : new.pike.turns ≤ new.pike.scans * ((1 + total_degree old.nfa) * (span_len x + 1))

-- all that a search leaves unchanged
pub record KeepsEngines (old new : ChoiceState) : Type 0 where
  pub nfa : new.nfa ≡ old.nfa
  pub visited_capacity : new.visited_capacity ≡ old.visited_capacity
  pub match_kind : new.match_kind ≡ old.match_kind
  pub capacities : SameCapacities old.pike new.pike

-- searches do not change this value of the choice
abbrev pub IsAsBefore : {V : Type 0} → (ChoiceState → V) → Type 0
IsAsBefore value = (old new : ChoiceState) → KeepsEngines old new → value new ≡ value old

-- the rule names the same engine for each search as before
abbrev pub RuleIsAsBefore : Type 0
RuleIsAsBefore = (x : Search) → IsAsBefore (λ c. is_for_backtracker c x)

-- the cache of the PikeVM fits the same NFAs as before
abbrev pub ChoiceFitsAsBefore : Type 0
ChoiceFitsAsBefore =
    (old new : ChoiceState) (nfa : Automaton) → KeepsEngines old new → Fits old.pike nfa → Fits new.pike nfa

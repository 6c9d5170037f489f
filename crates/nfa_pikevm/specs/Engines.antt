-- A PikeVM and its cache as values, and the condition that a cache fits.
use Rattle.std.specs.Prelude.{◌≡◌, ◌⊎◌, ℕ, ◌+◌, ◌*◌, ◌≤◌, Option, length, unwrap_or}
use Rattle.nfa_paths.specs.Common.{slot_count, MatchKind, Automaton, LeftmostFirst}
use Rattle.nfa_scan_core.specs.Marks.{saturated}
use Rattle.nfa_pikevm_scan.specs.Needs.{stack_frames}

-- an NFA, and the match kind, if one was set
pub record Pike : Type 0 where
  pub nfa : Automaton
  pub match_kind : Option MatchKind

-- the match kind that it searches with
abbrev pub kind_of : Pike → MatchKind
kind_of vm = unwrap_or vm.match_kind LeftmostFirst

-- What a cache shows: the states, slots, patterns and stack frames that it has room for, the scans and turns of its
-- last search, and those of all its searches.
pub record PikeCache : Type 0 where
  pub states : ℕ
  pub slots : ℕ
  pub patterns : ℕ
  pub frames : ℕ
  pub scans : ℕ
  pub turns : ℕ
  pub all_scans : ℕ
  pub all_turns : ℕ

-- the totals rise by exactly the scans and turns of the new search
pub record AddsPikeWork (old new : PikeCache) : Type 0 where
  pub scans : new.all_scans ≡ old.all_scans + new.scans
  pub turns : new.all_turns ≡ old.all_turns + new.turns

-- the cache is large enough for the NFA
pub record Fits (cache : PikeCache) (nfa : Automaton) : Type 0 where
  pub states : length nfa.states ≤ cache.states
  pub slots : slot_count nfa.groups ≤ cache.slots
  pub patterns : length nfa.patterns ≤ cache.patterns
  pub frames : stack_frames nfa ≤ cache.frames

-- the sizes of the cache did not change
pub record SameCapacities (old new : PikeCache) : Type 0 where
  pub states : new.states ≡ old.states
  pub slots : new.slots ≡ old.slots
  pub patterns : new.patterns ≡ old.patterns
  pub frames : new.frames ≡ old.frames

-- the cache after a reset for the NFA, whatever it was made for before
abbrev pub reset_for : PikeCache → Automaton → PikeCache
reset_for cache nfa = record cache {
  states = length nfa.states;
  slots = slot_count nfa.groups;
  patterns = length nfa.patterns;
  frames = stack_frames nfa;
}

-- the cache for another NFA: it is reset only if it does not fit
abbrev pub IsFitFor : PikeCache → Automaton → PikeCache → Type 0
IsFitFor old nfa new = (Fits old nfa × (new ≡ old)) ⊎ (¬ (Fits old nfa) × (new ≡ reset_for old nfa))

-- a new cache for the NFA
abbrev pub cache_for : Automaton → PikeCache
cache_for nfa = record {
  states = length nfa.states;
  slots = slot_count nfa.groups;
  patterns = length nfa.patterns;
  frames = stack_frames nfa;
  scans = 0;
  turns = 0;
  all_scans = 0;
  all_turns = 0;
}

-- The bytes of a cache: 24 for a frame; 8 for each slot of the row that a search fills, and of the rows of the two
-- sets, which have one row more than states; 4 for the mark of a state and for each entry of the two sets.
abbrev pub pike_memory_of : PikeCache → ℕ
pike_memory_of cache = saturated (24 * cache.frames + 8 * ((2 * cache.states + 3) * cache.slots)
    + 4 * (3 * cache.states + 2))

-- A backtracker and its cache as values, and how many pairs it may mark.
use Rattle.std.specs.Prelude.{◌≡◌, ℕ, ◌+◌, ◌*◌, ◌/◌, ◌-◌, ◌<◌, ◌≤◌, max, length, Option, unwrap_or}
use Rattle.nfa_paths.specs.Common.{Search, Automaton, span_len}
use Rattle.nfa_scan_core.specs.Marks.{saturated}

-- an NFA, and the capacity in bytes, if one was set
pub record Backtracker : Type 0 where
  pub nfa : Automaton
  pub visited_capacity : Option ℕ

-- what a cache shows: the scans and turns of its last search, and those of all its searches; its frames, blocks of
-- marks and slots; and how many of its searches were answered and how many refused
pub record BacktrackCache : Type 0 where
  pub scans : ℕ
  pub turns : ℕ
  pub frames : ℕ
  pub blocks : ℕ
  pub slots : ℕ
  pub answered : ℕ
  pub refused : ℕ
  pub all_scans : ℕ
  pub all_turns : ℕ

-- a cache that has made no search and holds nothing
abbrev pub empty_cache : BacktrackCache
empty_cache = record {
  scans = 0;
  turns = 0;
  frames = 0;
  blocks = 0;
  slots = 0;
  answered = 0;
  refused = 0;
  all_scans = 0;
  all_turns = 0;
}

-- one search more was answered
pub record CountsAnswer (old new : BacktrackCache) : Type 0 where
  pub answered : new.answered ≡ old.answered + 1
  pub refused : new.refused ≡ old.refused

-- one search more was refused
pub record CountsRefusal (old new : BacktrackCache) : Type 0 where
  pub answered : new.answered ≡ old.answered
  pub refused : new.refused ≡ old.refused + 1

-- the totals rise by exactly the scans and turns of the new search
pub record AddsBacktrackWork (old new : BacktrackCache) : Type 0 where
  pub scans : new.all_scans ≡ old.all_scans + new.scans
  pub turns : new.all_turns ≡ old.all_turns + new.turns

-- no block is dropped, and there are no more than before or than the pairs of the search need
pub record GrowsBlocks (nfa : Automaton) (x : Search) (old new : ℕ) : Type 0 where
  pub kept : old ≤ new
  pub needed : new ≤ max old ((length nfa.states * (span_len x + 1) + 63) / 64)

-- The cache has no frame that it did not have before. It keeps its slots, and has no more of them than before or than
-- needed.
pub record HoldsNoMore (needed : ℕ) (old new : BacktrackCache) : Type 0 where
  pub frames : new.frames ≤ old.frames
  pub slots_kept : old.slots ≤ new.slots
  pub slots : new.slots ≤ max old.slots needed

-- the cache after a search that was refused before it began
abbrev pub refused_early : BacktrackCache → BacktrackCache
refused_early w = record w { scans = 0; turns = 0; refused = w.refused + 1 }

-- the bytes of a cache: 24 for a frame, 8 for a block, 8 for a slot
abbrev pub memory_of : BacktrackCache → ℕ
memory_of w = saturated (24 * w.frames + 8 * w.blocks + 8 * w.slots)

-- the default capacity in bytes
abbrev pub default_capacity : ℕ
default_capacity = 262144

-- the bits of this number of bytes, rounded up to whole blocks of 64
abbrev pub rounded_bits : ℕ → ℕ
rounded_bits bytes = saturated (64 * ((saturated (8 * bytes) + 63) / 64))

-- how many pairs a search may mark
abbrev pub capacity_of : Backtracker → ℕ
capacity_of e = rounded_bits (unwrap_or e.visited_capacity default_capacity)

-- The length of the longest span that a search may have, if there is a bit for each state. Otherwise it is 0, and every
-- search is too long.
abbrev pub max_haystack_len_of : Backtracker → ℕ
max_haystack_len_of e = capacity_of e / length e.nfa.states - 1

-- the search has more pairs than may be marked
abbrev pub IsTooLong : Backtracker → Search → Type 0
IsTooLong e x = capacity_of e < length e.nfa.states * (span_len x + 1)

-- the least capacity in bytes that has a bit for each pair
abbrev pub min_capacity_of : Automaton → Search → ℕ
min_capacity_of nfa x = (length nfa.states * (span_len x + 1) + 7) / 8

-- What searches by a regex cost the engines of its choice, and what the cache of its backtracker holds.
use Rattle.std.specs.Prelude.{◌≡◌, ◌⊎◌, ℕ, ◌+◌, ◌*◌, ◌/◌, ◌≤◌, length, max, Some}
use Rattle.nfa_paths.specs.Common.{Search, span_len}
use Rattle.nfa_paths.specs.Paths.{total_degree}
use Rattle.nfa_choice.specs.declared.choose.Engine.{Engine}
use Rattle.nfa_meta.specs.RegexState.{RegexState}

-- Each engine makes at most this many scans of the span of x, and no more turns than these may make. The cache of the
-- backtracker gets no frame. It keeps its slots and its blocks of marks, and has no more slots than before or than this
-- many, and no more blocks than before or than mark each pair of a state and a position of the span.
pub record WorksWithin (scans slots : ℕ) (x : Search) (old new : RegexState) : Type 0 where
  pub back_scans : new.choice.back.all_scans ≤ old.choice.back.all_scans + scans
  pub back_turns : new.choice.back.all_turns
      ≤ old.choice.back.all_turns + scans * ((1 + total_degree old.choice.nfa) * (span_len x + 1))
  pub pike_scans : new.choice.pike.all_scans ≤ old.choice.pike.all_scans + scans
  pub pike_turns : new.choice.pike.all_turns
      ≤ old.choice.pike.all_turns + scans * ((1 + total_degree old.choice.nfa) * (span_len x + 1))
  pub frames : new.choice.back.frames ≤ old.choice.back.frames
  pub slots_kept : old.choice.back.slots ≤ new.choice.back.slots
  pub slots_held : new.choice.back.slots ≤ max old.choice.back.slots slots
  pub blocks_kept : old.choice.back.blocks ≤ new.choice.back.blocks
  pub blocks_held : new.choice.back.blocks
      ≤ max old.choice.back.blocks ((length old.choice.nfa.states * (span_len x + 1) + 63) / 64)
  -- an engine gave the last answer of the choice, unless none searched
  pub ran : (new.choice ≡ old.choice) ⊎ ((engine : Engine) × (new.choice.ran ≡ Some engine))

-- A regex as a value, and what its searches keep.
use Rattle.std.specs.Prelude.{◌≡◌, ◌≤◌, ◌+◌, ◌-◌, ◌^◌, ℕ, List, min, if◌then◌else◌}
use Rattle.nfa_backtrack.specs.Backtrack.{memory_of}
use Rattle.nfa_pikevm.specs.Engines.{Pike, pike_memory_of}
use Rattle.nfa_choice.specs.ChoiceState.{ChoiceState, KeepsEngines, pike_of as pike_of_choice}
use Rattle.nfa_meta.specs.declared.builder.Config.{Config}

-- the most bytes that the rows of the lazy DFA may take: none if searches do not begin with one
abbrev pub row_capacity : Config → ℕ
row_capacity c = if c.hybrid then c.hybrid_cache_capacity else 0

-- the most bytes that sure steps may take: none if there are to be none
abbrev pub step_capacity : Config → ℕ
step_capacity c = if c.onepass then c.onepass_size_limit else 0

-- what its choice shows, the settings, the texts that it was built of, the bytes that the rows of the lazy DFA take,
-- how many of the DFA's searches stopped without an answer, and the bytes that sure steps take
pub record RegexState : Type 0 where
  pub choice : ChoiceState
  pub config : Config
  pub texts : List (List ℕ)
  pub rows : ℕ
  pub stops : ℕ
  pub steps : ℕ

-- the PikeVM of its choice, which defines its answers
abbrev pub pike_of : RegexState → Pike
pike_of r = pike_of_choice r.choice

-- the bytes of the rows, of both caches of the choice and of sure steps, or the maximum `usize` if they are more
abbrev pub bytes_of : RegexState → ℕ
bytes_of r = min (memory_of r.choice.back + pike_memory_of r.choice.pike + r.rows + r.steps) (2 ^ 64 - 1)

-- rows and steps take no more bytes than they may
abbrev pub HasRoom : RegexState → Type 0
HasRoom r = (r.rows ≤ row_capacity r.config) × (r.steps ≤ step_capacity r.config)

-- What a search keeps: the engines of the choice, the settings and the texts. No stop is forgotten.
pub record KeepsRegex (old new : RegexState) : Type 0 where
  pub engines : KeepsEngines old.choice new.choice
  pub config : new.config ≡ old.config
  pub texts : new.texts ≡ old.texts
  pub stops : old.stops ≤ new.stops

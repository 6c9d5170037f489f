-- The iterator over the half matches of a hybrid.
use Rattle.std.specs.Prelude.{Option}
use Rattle.nfa_search_base.specs.Common.{MutBor, Search, HalfMatch, GivesStepsWith, StepsWith}
use Rattle.nfa_choice.specs.HalfIterations.{HalvesLead, HalvesNextBy}
use Rattle.nfa_choice.specs.HybridState.{HybridState, KeepsHybrid, RunsInTurn, pike_of}
use Rattle.nfa_choice.specs.declared.hybrid.half_matches.HalfMatches.{HalfMatches}
use Rattle.nfa_choice.specs.declared.hybrid.half_matches.InTurn.{InTurn}

-- one search for a half match by the engines in turn
pub record FindsHalfInTurn (x : Search) (old new : HybridState) : Type 0 where
  pub runs : RunsInTurn x x.earliest old new
  pub keeps : KeepsHybrid old new

-- the steps of the iterator, and the hybrid that it borrows
abbrev pub half_steps : HalfMatches → StepsWith InTurn HybridState
half_steps s = record { steps = s.steps; cache = s.hybrid }

-- the hybrid that it searches with
abbrev pub halves_hybrid : HalfMatches → MutBor HybridState
halves_hybrid s = s.hybrid

-- a call
abbrev pub halves_next : HalfMatches → Option HalfMatch → HalfMatches → Type 0
halves_next s r t = HalvesNextBy pike_of FindsHalfInTurn half_steps s r t

-- the calls keep the hybrid, and what its answers depend on
abbrev pub HalvesGiveKept : HalfMatches → Type 0
HalvesGiveKept s = GivesStepsWith halves_next half_steps KeepsHybrid s

-- The calls change the hybrid only by the searches of an iteration over x. At `None` the iteration went to its end,
-- past the half matches so far.
abbrev pub HalvesBySearches : Search → HalfMatches → Type 0
HalvesBySearches = HalvesLead pike_of FindsHalfInTurn half_steps

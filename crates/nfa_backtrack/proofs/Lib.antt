-- The lemmas of the backtracker.
pub mod BitLemmas
pub mod PassLemmas
pub mod WalkLemmas
pub mod StepLemmas
pub mod ApplyFrameLemmas
pub mod AlternateLemmas
pub mod EngineLemmas
pub mod FindLemmas
pub mod RunLemmas
pub mod CapturesLemmas

-- Lemmas on tables, places and ways.
pub mod LawLemmas
pub mod MatchLemmas
pub mod StatePathLemmas
pub mod SearchLemmas
-- On occurrences of bytes, the bytes that paths read first, bytes that each path reads and how many, and searches for
-- them.
mod ByteLemmas
pub mod FewLemmas
pub mod LeastLemmas
pub mod LevelLemmas
pub mod NeedleLemmas
pub mod OccurrenceLemmas
pub mod PrefixLemmas
pub mod PositionLemmas
pub mod ReachedLemmas
pub mod RequiredLemmas
pub mod WalkLemmas
-- On paths and sets of an NFA with fewer captures.
pub mod KeptLemmas
pub mod SetLemmas

-- The lemmas on bytes, targets and counters.
mod Made
pub mod FirstLemmas
pub mod TargetLemmas

pub mod EngineLemmas
pub mod FindLemmas
pub mod CapturesLemmas

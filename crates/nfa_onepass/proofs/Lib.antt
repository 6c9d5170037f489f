pub mod WayLemmas
pub mod ClosureLemmas
pub mod TableLemmas
pub mod OnlyLemmas
pub mod WholeLemmas

mod KindLemmas
mod DigitLemmas
mod PathStateLemmas
mod HalfLemmas
pub mod EmptyFinderLemmas

pub mod LineLemmas
mod PartLemmas
mod SplitLemmas

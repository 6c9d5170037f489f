-- The lemmas on tokens, on pieces, on positions, on rules and on writes.
pub mod PieceLemmas
pub mod PositionLemmas
pub mod PrintedLemmas
pub mod RuleLemmas

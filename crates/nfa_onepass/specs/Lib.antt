pub mod Lists
pub mod Ways
pub mod Tables
pub mod OnlyLaws
pub use Rattle.nfa_paths.specs.Graphs
pub use Rattle.nfa_paths.specs.Paths

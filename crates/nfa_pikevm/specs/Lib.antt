pub mod Engines
pub mod Finding
pub mod Iterators
pub use Rattle.nfa_pikevm_scan.specs.Needs
pub use Rattle.nfa_scan_core.specs.FirstBytes

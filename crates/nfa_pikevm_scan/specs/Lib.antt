pub mod Needs
pub mod States
pub mod Rows
pub mod Sinks
pub mod Scans

pub mod Bits
pub mod Walk
pub mod Backtrack
pub mod Iterators
pub mod Finding
pub mod Runs

pub mod Lines
pub mod Parting
pub mod Splitting

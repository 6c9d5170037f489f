pub mod EmptyFinder
pub mod Lines
pub mod Pieces
pub mod Texts

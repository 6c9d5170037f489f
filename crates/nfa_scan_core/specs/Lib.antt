pub mod FirstBytes
pub mod Marks

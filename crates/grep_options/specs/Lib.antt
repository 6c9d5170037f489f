pub mod Colours
pub mod Globs
pub mod Ignored
pub mod Reports
pub mod Texts

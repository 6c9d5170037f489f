pub mod StateTables
pub mod Names
pub mod Counts

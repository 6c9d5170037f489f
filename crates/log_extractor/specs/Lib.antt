pub mod Asked
pub mod Counts
pub mod Fields
pub mod Printed
pub mod Selected
pub mod Several
pub mod Taken

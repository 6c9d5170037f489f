pub mod Cased
pub mod Changes
pub mod Escapes
pub mod Fillings
pub mod Hits
pub mod Printed
pub mod Separated
pub mod Stretches

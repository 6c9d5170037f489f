pub mod Counted
pub mod Going
pub mod Meant
pub mod Painted
pub mod Printed
pub mod Required

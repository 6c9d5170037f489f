pub mod Lexed
pub mod Positions
pub mod Printed
pub mod Rules

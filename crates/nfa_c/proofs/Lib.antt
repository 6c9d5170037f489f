pub mod Crosses
pub mod PartsSteps
pub mod RegexSlotSteps
pub mod SetSlotSteps
pub mod SlotSteps

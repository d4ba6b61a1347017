pub mod EditCall
pub mod EditedMemory
pub mod EditRules

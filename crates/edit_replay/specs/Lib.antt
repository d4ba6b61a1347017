pub mod ReplayCall
pub mod ReplayedMemory
pub mod ReplayRules

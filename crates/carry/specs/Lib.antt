pub mod CarryCall
pub mod ReducedMemory
pub mod CarryRules
pub mod WrittenPlan

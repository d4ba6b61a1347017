pub mod ReductionCall
pub mod ReductionRules

-- Laws of the definitions in specs.
pub mod ReductionCallLaws
pub mod ReductionRulesLaws
pub mod ReductionLaws
pub mod Worked

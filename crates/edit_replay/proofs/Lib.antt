-- Laws of the definitions in specs.
pub mod ReplayCallLaws
pub mod ReplayRulesLaws
pub mod FinalTableLaws

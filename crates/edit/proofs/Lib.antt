-- Laws of the definitions in specs.
pub mod EditCallLaws
pub mod EditRulesLaws
pub mod NewTableLaws

-- Laws of the definitions in specs.
pub mod TraceLaws
pub mod PaddedLaws
pub mod RunLaws
pub mod TraceRulesLaws
pub mod ParityLaws

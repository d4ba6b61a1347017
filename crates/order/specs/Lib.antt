pub mod OrderCall
pub mod OrderRules
pub mod OrderWritten
pub mod OrderWrittenLaws
pub mod OrderCallLaws
pub mod OrderRulesLaws
pub mod SameOrderLaws

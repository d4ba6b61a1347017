pub mod TableCall
pub mod TableRules
pub mod Tables

-- Laws of the definitions in specs.
pub mod TableRulesLaws
pub mod SourcesLaws
pub mod TablesLaws
pub mod TableCallLaws
pub mod SameTableLaws

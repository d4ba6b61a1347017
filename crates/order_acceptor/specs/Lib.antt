pub mod RelationCall
pub mod RelationRules
pub mod RelationRulesLaws
pub mod RelationCallLaws
pub mod RowSearch
pub mod RowSearchLaws
pub mod SameRelationLaws

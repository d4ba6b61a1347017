pub mod GovernedCall
pub mod GovernedRules
pub mod GovernedRulesLaws
pub mod SameGovernedLaws

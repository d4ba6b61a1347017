-- Laws of the definitions in specs.
pub mod CarryCallLaws
pub mod CarryRulesLaws
pub mod WrittenPlanLaws
pub mod CarryMemoryLaws
pub mod SameCarryLaws

pub mod PlanWords
pub mod CarryParts
pub mod CarryPartsLaws
pub mod LowestLaws
pub mod OutputLaws
pub mod SearchResultLaws

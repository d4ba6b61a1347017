-- Laws of the definitions in specs.
pub mod BufferLaws
pub mod EdgesLaws
pub mod ListedPartLaws
pub mod EditedLaws
pub mod SearchLaws
pub mod ScanLaws
pub mod EditPartsLaws
pub mod JudgeLaws
pub mod EdgesRulesLaws

pub mod Blocks
pub mod BlocksLaws
pub mod Refining
pub mod RefiningLaws

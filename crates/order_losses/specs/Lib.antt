pub mod Losses
pub mod ValuesLaws

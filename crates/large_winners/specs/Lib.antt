pub mod WinnersLaws
pub mod Worked

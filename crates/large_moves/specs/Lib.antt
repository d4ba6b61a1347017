pub mod Moves
pub mod Chosen
pub mod MoveRules

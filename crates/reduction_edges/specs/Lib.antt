pub mod Rows
pub mod LittleBrothers

-- Laws of the definitions in specs.
pub mod ReducedTwiceLaws
pub mod WorkedGames

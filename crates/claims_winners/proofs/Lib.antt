-- Laws of the definitions in specs.
pub mod WinnersLaws
pub mod VerdictWinnersLaws
pub mod SameVerdictLaws
pub mod WorkedGames

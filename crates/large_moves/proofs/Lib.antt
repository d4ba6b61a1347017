-- Laws of the definitions in specs.
pub mod MovesLaws
pub mod ChosenLaws
pub mod ExistenceLaws

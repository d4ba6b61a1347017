-- Laws of the definitions in specs.
pub mod PickedLaws
pub mod LittleBrothersLaws
pub mod WordsLaws
pub mod ListingLaws

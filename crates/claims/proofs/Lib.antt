-- Laws of the definitions in specs.
pub mod CasesLaws
pub mod SentencesLaws
pub mod SmallestLaws
pub mod WorkedGames
pub mod GovernedSentencesLaws

pub mod Cases
pub mod WrittenMemory
pub mod Demands
pub mod Sentences
pub mod Smallest
pub mod GovernedSentences

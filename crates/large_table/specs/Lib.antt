pub mod Words
pub mod Reading
pub mod LargeRules
pub mod ReadingLaws
pub mod WordsLaws

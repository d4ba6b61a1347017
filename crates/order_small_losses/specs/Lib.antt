pub mod Words
pub mod EdgeWordsLaws

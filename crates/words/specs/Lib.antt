pub mod Word
pub mod WordLaws
pub mod Words
pub mod WordsLaws
pub mod LeftLaws
pub mod NumberLaws
pub mod MembersLaws

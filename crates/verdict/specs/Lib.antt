pub mod VerdictCall
pub mod VerdictAnswers
pub mod VerdictRules
pub mod Verdicts

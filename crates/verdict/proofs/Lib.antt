-- Laws of the definitions in specs.
pub mod VerdictCallLaws
pub mod VerdictRulesLaws
pub mod ConfirmedLaws
pub mod VerdictsLaws

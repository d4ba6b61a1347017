pub mod Winners
pub mod VerdictWinners

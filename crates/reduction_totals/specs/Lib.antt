pub mod Totals
pub mod TotalsLaws
pub mod Counting
pub mod CountingLaws

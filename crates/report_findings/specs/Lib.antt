pub mod Words
pub mod WordsLaws
pub mod Findings
pub mod ReportMemory
pub mod FindingsLaws
pub mod LinesLaws

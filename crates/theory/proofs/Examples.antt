pub mod Compute
pub mod Examples
pub mod CarryExamples
pub mod MinimalExamples
pub mod WinnerExamples
pub mod SolutionExamples
pub mod MergeExamples

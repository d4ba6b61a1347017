pub mod PreviewCall
pub mod PreviewCases
pub mod PreviewRules

-- Laws of the definitions in specs.
pub mod CopyLaws
pub mod PreviewRulesLaws
pub mod PreviewCallLaws
pub mod PreviewEditLaws

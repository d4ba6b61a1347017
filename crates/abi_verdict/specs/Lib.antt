pub mod VerdictExport
pub mod VerdictExportLaws

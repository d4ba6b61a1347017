pub mod Fields
pub mod FieldsLaws
pub mod Exports

pub mod LargeFieldsLaws

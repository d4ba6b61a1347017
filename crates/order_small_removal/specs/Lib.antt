pub mod ColumnWordLaws

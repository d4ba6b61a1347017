pub mod Bits
pub mod RowLaws
pub mod MatrixLaws

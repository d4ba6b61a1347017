pub mod RowRemoval
pub mod ReverseLosses

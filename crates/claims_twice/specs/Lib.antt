pub mod ReducedTwice

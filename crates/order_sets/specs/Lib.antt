-- Rounds of the order over rows, said of sets: a row is a set of numbers below B, and rows are a relation. How a row stands in words is told by
-- the crates of each width.
pub mod Sets
pub mod MembersLaws
pub mod Losses
pub mod EdgesLaws
pub mod LossesLaws
pub mod Removal
pub mod RemovalLaws
pub mod Reverses
pub mod ReversesLaws
pub mod Rounds
pub mod RoundsLaws

-- The mathematics, a folder for each subject. Definitions and laws stand in files apart; a reader must believe the definitions. An hour's
-- reading: the definitions `Game`, `Simulation`, `Order`, `Plan`, `Reduction`, `ClassEdges`, then the statements of `OrderLaws`,
-- `ReductionLaws`, `MixedLaws` and `KeptWinners`, without their proofs.
pub mod Logic
pub mod Games
pub mod Order
pub mod Plans
pub mod Winners
pub mod Solutions
pub mod Classes
pub mod Carry
pub mod Merges

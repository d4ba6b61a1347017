-- The laws of the definitions in specs, a folder for each subject, and worked examples.
pub mod Logic
pub mod Games
pub mod Order
pub mod Plans
pub mod Winners
pub mod Solutions
pub mod Classes
pub mod Carry
pub mod Merges
pub mod Examples

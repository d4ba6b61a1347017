pub mod WordsFit

pub mod Places
pub mod Runs
pub mod Certificate
pub mod PlaceRules

-- Laws of the definitions in specs.
pub mod PlacesLaws
pub mod RunLaws
pub mod SolutionLaws
pub mod CertificateLaws
pub mod PlaceRulesLaws
pub mod Worked
pub mod RefusalLaws

-- Laws of the definitions in specs.
pub mod ImagesLaws
pub mod ImagesRulesLaws

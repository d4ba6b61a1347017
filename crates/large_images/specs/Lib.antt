pub mod Images
pub mod ImagesRules

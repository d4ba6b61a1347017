pub mod Edges
pub mod EditParts
pub mod Buffer
pub mod EdgesRules

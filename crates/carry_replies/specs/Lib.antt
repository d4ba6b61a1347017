pub mod Replies
pub mod SeatedLaws
pub mod ChainLaws
pub mod RepliesLaws
pub mod SuccessorLaws

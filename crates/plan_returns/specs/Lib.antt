pub mod Returns
pub mod ReturnsLaws
pub mod Search
pub mod SearchLaws
pub mod ReturnSearch
pub mod ReturnSearchLaws

pub mod Fetch
pub mod Actions

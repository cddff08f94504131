pub mod Views
pub mod Sameness

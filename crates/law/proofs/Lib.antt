pub mod Single
pub mod Reorder
pub mod Example

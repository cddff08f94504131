pub mod Noting
pub mod Following
pub mod Bounds
pub mod Telling

pub mod Levels
pub mod Lengths
pub mod Ticking

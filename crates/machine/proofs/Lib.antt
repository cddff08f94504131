pub mod Calling
pub mod Lengths

pub mod Events
pub mod Calls

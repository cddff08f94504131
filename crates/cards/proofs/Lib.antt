pub mod Rows
pub mod Packs
pub mod Switches
pub mod Flipping
pub mod Leads

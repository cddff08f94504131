pub mod Reporting
pub mod Lawful

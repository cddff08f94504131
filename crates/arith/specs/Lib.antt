pub mod Words
pub mod Shifts
pub mod Divisions
pub mod Laws
pub mod Operations
pub mod Relations

pub mod Entries
pub mod Trees
pub mod Order
pub mod Bites

pub mod Tests
pub mod Rehearsals

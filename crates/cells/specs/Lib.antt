pub mod Cells
pub mod Trails
pub mod Runs

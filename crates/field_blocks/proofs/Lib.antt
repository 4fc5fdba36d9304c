pub mod Masks
pub mod Turns
pub mod Runs

pub mod Counts
pub mod Walk

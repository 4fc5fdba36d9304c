pub mod Climb
pub mod Paths

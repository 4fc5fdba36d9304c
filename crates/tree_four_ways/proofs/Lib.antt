pub mod Fields
pub mod Climb
pub mod Leaves
pub mod Ways

pub mod Leaves
pub mod Levels
pub mod Built

pub mod Room
pub mod Blocks

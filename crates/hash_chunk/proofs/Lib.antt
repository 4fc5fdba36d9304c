pub mod Chunk
pub mod Blocks
pub mod Feed
pub mod Stands

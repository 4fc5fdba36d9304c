pub mod Flags
pub mod Compression
pub mod Orders
pub mod Chunk
pub mod Tree
pub mod Digest
pub mod Modes
pub mod Stack

pub mod Compression
pub mod Words
pub mod Tree
pub mod Stack
pub mod Modes
pub mod Vector

pub mod Blocks
pub mod Values
pub mod Filling
pub mod Whole
pub mod Digests

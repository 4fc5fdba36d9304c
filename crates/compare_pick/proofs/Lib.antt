pub mod Buffers
pub mod Picked
pub mod Chains

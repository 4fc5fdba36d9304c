pub mod Mirrored
pub mod Hash

pub mod Strings
pub mod Product
pub mod Mirrored
pub mod Ghash
pub mod Values

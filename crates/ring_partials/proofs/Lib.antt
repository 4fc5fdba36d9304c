pub mod Buckets
pub mod Horner
pub mod Sizes

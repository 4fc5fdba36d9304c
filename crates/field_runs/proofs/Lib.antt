pub mod Pairs
pub mod Doubling

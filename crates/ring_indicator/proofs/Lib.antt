pub mod Materialized
pub mod Steps
pub mod Sizes

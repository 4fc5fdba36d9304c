pub mod Domains
pub mod Known
pub mod Lanes

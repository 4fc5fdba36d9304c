pub mod Sizes
pub mod Domains
pub mod Totals

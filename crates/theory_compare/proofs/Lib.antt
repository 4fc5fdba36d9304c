pub mod Found
pub mod Compare

pub mod Cases
pub mod Compare

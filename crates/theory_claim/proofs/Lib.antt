pub mod Calls
pub mod Levels
pub mod Claim
pub mod Lent

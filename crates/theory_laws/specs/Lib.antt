pub mod Xor
pub mod Sum
pub mod Table
pub mod Places
pub mod Lists
pub mod Questions
pub mod Refusals

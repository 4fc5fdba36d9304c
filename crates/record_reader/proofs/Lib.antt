pub mod Windows
pub mod Runs
pub mod Places

pub mod Stores
pub mod Numbers
pub mod Same

pub mod Again
pub mod Levels
pub mod Numbers
pub mod Values

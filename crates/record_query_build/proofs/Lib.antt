pub mod Sizes
pub mod Levels
pub mod Puts
pub mod Numbers

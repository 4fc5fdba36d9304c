pub mod Lengths
pub mod Shift
pub mod Blocks
pub mod Lists

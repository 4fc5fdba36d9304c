pub mod Groups
pub mod Numbers
pub mod SetBits
pub mod Windows

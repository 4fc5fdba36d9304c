pub mod Groups
pub mod Numbers

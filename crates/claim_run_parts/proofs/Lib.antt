pub mod Deposits
pub mod Numbers

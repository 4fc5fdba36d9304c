pub mod Answers
pub mod Keys
pub mod Records
pub mod Sets
pub mod Sizes

pub mod Compare
pub mod Nearest
pub mod Lent

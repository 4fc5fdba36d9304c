pub mod Lent
pub mod Left
pub mod helpers

pub mod Splits
pub mod Walk
pub mod Leaves
pub mod Parents

pub mod Loops
pub mod Asked
pub mod Yes

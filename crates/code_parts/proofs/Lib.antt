pub mod Lengths
pub mod Block
pub mod FoldPart
pub mod Joined

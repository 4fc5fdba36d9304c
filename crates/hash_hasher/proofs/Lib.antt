pub mod Ready
pub mod OneCall
pub mod Absorb
pub mod Sequence

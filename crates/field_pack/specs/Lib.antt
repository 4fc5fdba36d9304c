pub mod Pack
pub mod Phi

pub mod Noted
pub mod Nodes

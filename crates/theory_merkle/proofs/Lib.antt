pub mod Message
pub mod Sizes
pub mod Levels
pub mod Tree
pub mod Binding
pub mod Questions

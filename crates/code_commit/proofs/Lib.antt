pub mod LevelTrees
pub mod Sizes

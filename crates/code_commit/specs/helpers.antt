pub mod LevelTree

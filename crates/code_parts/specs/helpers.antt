pub mod FoldPart
pub mod Half

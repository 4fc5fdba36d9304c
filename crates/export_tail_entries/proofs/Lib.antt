pub mod Padded
pub mod Input

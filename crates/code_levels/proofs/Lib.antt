pub mod Laying
pub mod Slices

pub mod Array
pub mod Tower

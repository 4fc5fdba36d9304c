pub mod Product
pub mod Powers
pub mod LongProduct
pub mod Remainder
pub mod Square
pub mod Inverse
pub mod Spread
pub mod Words

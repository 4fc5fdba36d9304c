pub mod Field
pub mod LongProduct
pub mod Spread
pub mod Words

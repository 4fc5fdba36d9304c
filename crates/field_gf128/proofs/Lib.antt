pub mod Halves
pub mod Windows
pub mod Karatsuba
pub mod Reduction
pub mod Spreading
pub mod Inverting
pub mod Equality

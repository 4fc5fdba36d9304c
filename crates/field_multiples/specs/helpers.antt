pub mod Multiples
pub mod Kernels
pub mod Rows

pub mod Gammas
pub mod Rising

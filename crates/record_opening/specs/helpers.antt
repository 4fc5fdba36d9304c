pub mod Again
pub mod Opening

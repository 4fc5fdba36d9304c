pub mod Words
pub mod Groups
pub mod Level
pub mod Numbers
pub mod Loop
pub mod Again

pub mod Numbers
pub mod Identities
pub mod helpers

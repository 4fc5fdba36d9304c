pub mod Domains
pub mod Known
pub mod Lanes
pub mod LevelDomains
pub mod TailGroups

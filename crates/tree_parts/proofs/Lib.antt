pub mod LeavesPart
pub mod SomeParents
pub mod Joined

pub mod Yes

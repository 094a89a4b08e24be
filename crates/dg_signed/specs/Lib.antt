pub mod Causes
pub mod Finding

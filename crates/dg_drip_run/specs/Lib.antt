pub mod Dripped
pub mod Causes
pub mod Promised
pub mod inner

pub mod Receiving
pub mod Verbs
pub mod Done
pub mod inner

pub mod Images
pub mod Airs
pub mod Neighbours
pub mod Shareds
pub mod EventKinds
pub mod Finds
pub mod LookedInto
pub mod Unseen

pub mod Faults
pub mod Document
pub mod Profile
pub mod Readings
pub mod Sizes
pub mod inner

pub mod Sizes
pub mod Apps
pub mod Asking
pub mod Bounds
pub mod Laws
pub mod Roots
pub mod Values
pub mod Verbs

pub mod Sizes
pub mod Loads
pub mod Started
pub mod Ends
pub mod Faults

pub mod Sizes
pub mod Object
pub mod Descriptor
pub mod Records
pub mod Faults
pub mod Tested

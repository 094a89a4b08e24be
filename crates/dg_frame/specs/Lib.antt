pub mod Sizes
pub mod Spelling
pub mod Grammar
pub mod Kinds
pub mod Ranges
pub mod Readings

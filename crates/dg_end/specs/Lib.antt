pub mod Texts
pub mod Lines
pub mod Conversions
pub mod Writes

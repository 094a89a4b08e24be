pub mod Bytes
pub mod Breaks

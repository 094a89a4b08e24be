pub mod Counts
pub mod Layout

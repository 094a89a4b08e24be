pub mod Chip
pub mod Pages
pub mod Starts
pub mod Facts
pub mod Seen
pub mod Files
pub mod Numbers

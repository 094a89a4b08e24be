pub mod Volumes
pub mod Sound
pub mod Alike

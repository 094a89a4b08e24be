pub mod Looking
pub mod Moments
pub mod Wholes
pub mod Telling

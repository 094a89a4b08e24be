pub mod Times
pub mod Timer
pub mod Steps
pub mod Runs

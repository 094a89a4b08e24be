pub mod Times
pub mod Reception
pub mod Steps
pub mod Histories

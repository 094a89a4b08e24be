pub mod Times
pub mod Owed
pub mod Steps
pub mod Histories

pub mod Times
pub mod Sizes
pub mod Noted
pub mod Histories

pub mod Ended
pub mod Chips
pub mod Shown
pub mod Runs
pub mod Rests

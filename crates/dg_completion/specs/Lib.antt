pub mod Rests
pub mod Completion
pub mod Holders
pub mod Ends
pub mod Met
pub mod Played

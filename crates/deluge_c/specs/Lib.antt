pub mod Answers
pub mod Messages
pub mod Pages
pub mod Plans
pub mod Timers

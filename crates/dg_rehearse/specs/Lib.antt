pub mod Along
pub mod Rehearsed
pub mod Ended
pub mod TrialScripts
pub mod Courses
pub mod Turns
pub mod Clocked

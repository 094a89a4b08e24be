pub mod Schedule
pub mod Playing
pub mod Lines
pub mod Trials
pub mod inner

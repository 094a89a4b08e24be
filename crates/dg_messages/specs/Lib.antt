pub mod Showing
pub mod Keeping
pub mod LastLines
pub mod Sentences
pub mod Telling
pub mod Saying

pub mod Chain
pub mod Checking
pub mod Answers
pub mod Receiving
pub mod Texts

pub mod Functions
pub mod Addresses
pub mod Wots
pub mod Trees
pub mod Joining
pub mod Keys
pub mod Signatures
pub mod Answers

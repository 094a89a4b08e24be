pub mod Texts
pub mod Picture
pub mod Drawn
pub mod Followed

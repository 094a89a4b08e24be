pub mod Plans
pub mod Overs
pub mod Singles
pub mod Networks

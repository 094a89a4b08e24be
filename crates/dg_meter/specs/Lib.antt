pub mod Regions
pub mod Shares
pub mod Tallies
pub mod Meters
pub mod Pages

pub mod Table
pub mod Moments
pub mod Csv
pub mod Timed

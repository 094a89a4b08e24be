pub mod Sizes
pub mod Fields
pub mod Lines
pub mod Scripts
pub mod Reports
pub mod inner

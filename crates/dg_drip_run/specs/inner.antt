-- Definitions for the inner functions. No public promise needs them.
pub mod Playing
pub mod Lines

-- Definitions for the inner functions. No public promise needs them.
pub mod Standing
pub mod Ends
pub mod Words

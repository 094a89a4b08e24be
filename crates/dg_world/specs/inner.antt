-- Definitions for the inner functions. No public promise needs them.
pub mod ActOutcomes
pub mod ChipReports
pub mod Contexts
pub mod Counts
pub mod CutEnds
pub mod EventOutcomes
pub mod Faults
pub mod Finished
pub mod OutcomeEndings
pub mod Outcomes
pub mod Sees
pub mod Steps
pub mod Untold

-- Words of the inner functions: no public promise needs them.
pub mod Begins
pub mod Faults

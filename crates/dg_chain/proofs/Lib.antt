pub mod WalkLemmas
pub mod WrapLemmas
pub mod StepLemmas
pub mod SealLemmas
pub mod ReceiveLemmas

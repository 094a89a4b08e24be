pub mod ByteLemmas
pub mod BreakLemmas

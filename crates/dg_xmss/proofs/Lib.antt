pub mod KeyLemmas
pub mod ByteLemmas
pub mod DigitLemmas
pub mod ChainLemmas
pub mod TreeLemmas
pub mod WaitLemmas

mod DispatchLemmas
mod VerbLemmas
pub mod ChainLemmas
mod DripLemmas
mod BaseLemmas

pub mod FlawLemmas
pub mod RootLemmas
pub mod AlikeLemmas

pub mod AppLemmas
pub mod AskLemmas
pub mod FitLemmas
pub mod KindLemmas
pub mod LawLemmas
pub mod RangeLemmas
pub mod ReadLemmas
pub mod RootLemmas

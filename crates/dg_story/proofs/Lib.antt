pub mod ToldLemmas
pub mod ReadLemmas
pub mod LineLemmas

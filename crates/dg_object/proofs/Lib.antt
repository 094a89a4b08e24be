pub mod PageLemmas
pub mod NameLemmas
pub mod HeadLemmas
pub mod RestLemmas
pub mod RowLemmas
pub mod TestedLemmas

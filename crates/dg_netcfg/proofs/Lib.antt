pub mod ProfileLemmas
pub mod ReadingLemmas

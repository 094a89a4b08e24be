pub mod CutLemmas
pub mod StuffLemmas
pub mod ReadLemmas
pub mod BreakLemmas
pub mod FrontLemmas

mod MotesLemmas
mod MapLemmas
mod ChangeLemmas
mod MomentLemmas
mod BeginLemmas
mod TellingLemmas
mod NewestLemmas

pub mod TellLemmas
pub mod ReadLemmas
pub mod KeepLemmas
pub mod ShowLemmas

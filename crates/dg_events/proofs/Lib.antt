mod CountLemmas
mod FrameLemmas
mod ShareLemmas
mod OutsideLemmas
mod FrameEvents
mod ToldLemmas
mod PowerLemmas
mod UptimeLemmas
pub mod HaveLemmas
mod PageCountLemmas
mod LineLemmas
mod PageStepLemmas
mod WholeLemmas
pub mod MadeLemmas

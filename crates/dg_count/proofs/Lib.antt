mod FrameLemmas
pub mod GivenLemmas
mod FaultLemmas
mod RunLemmas
mod SightLemmas
mod TallyLemmas
pub mod ChipLemmas

pub mod PlaceLemmas
pub mod OverLemmas
pub mod LookOver
pub mod TurnOver
pub mod ServeOver
pub mod NetworkOver
pub mod LawOver

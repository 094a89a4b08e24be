pub mod RoundLemmas
pub mod SweepLemmas
pub mod WayLemmas

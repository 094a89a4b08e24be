pub mod NodeLemmas
pub mod TimelyLemmas
pub mod KnownLemmas
pub mod ActLemmas

mod ClockLemmas
pub mod CrcLemmas
pub mod HexLemmas
pub mod LineLemmas
pub mod NumberLemmas
pub mod OutsideLemmas

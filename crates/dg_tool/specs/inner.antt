pub mod OneBoard
pub mod OnChip
pub mod Started

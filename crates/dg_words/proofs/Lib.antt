pub mod BitsLemmas
pub mod ByteLemmas
pub mod CellLemmas
pub mod ListLemmas

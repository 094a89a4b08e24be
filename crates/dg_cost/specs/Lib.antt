pub mod EventRows
pub mod TimeRows
pub mod FrameRows
pub mod FlashRows
pub mod MomentRows
pub mod Counting
pub mod Costs

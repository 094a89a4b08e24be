mod BytesLemmas
mod FlashLemmas
mod FrameLemmas
mod LookingLemmas
mod MomentRowLemmas
mod RowLemmas
mod RunLemmas

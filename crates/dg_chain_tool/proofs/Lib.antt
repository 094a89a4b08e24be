pub mod WrapLemmas
pub mod CheckLemmas
pub mod FillLemmas
pub mod NextLemmas
pub mod ReceiveLemmas
mod AgreementLemmas

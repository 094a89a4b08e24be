pub mod TableLemmas
pub mod MomentLemmas
mod TimedLemmas
mod CsvLemmas

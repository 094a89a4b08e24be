pub mod FrontLemmas
pub mod ReaderLemmas
pub mod PassingLemmas
pub mod WordsReadLemmas
pub mod ReadsBackLemmas
pub mod ReportReadingLemmas

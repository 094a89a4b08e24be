pub mod Words
pub mod VerbWords

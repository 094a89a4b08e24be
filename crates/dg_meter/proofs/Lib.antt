pub mod PageLemmas
pub mod CountLemmas

pub mod FilledLemmas
pub mod PageLemmas
pub mod ImageLemmas
pub mod StartingLemmas
pub mod FactsLemmas
pub mod SeenLemmas

pub mod AirLemmas
pub mod LinkLemmas
pub mod ImageLemmas
pub mod UnseenLemmas
pub mod MakesLemmas

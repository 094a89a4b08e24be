pub mod EachLemmas
pub mod ColumnLemmas
pub mod LayoutLemmas
mod LawLemmas

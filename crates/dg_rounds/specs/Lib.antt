pub mod Rounds
pub mod Left
pub mod LinkPaths
pub mod Marks

pub mod Endings
pub mod Pages
pub mod Verbs
pub mod Done
pub mod Agreement
pub mod Rules
pub mod Input
pub mod inner

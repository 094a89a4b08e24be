pub mod BaseEvents
pub mod Based
pub mod Agreeing
pub mod Consistency
pub mod Done
pub mod inner

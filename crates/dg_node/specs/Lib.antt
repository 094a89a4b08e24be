pub mod Nodes
pub mod Hosts
pub mod Ends
pub mod Known
pub mod Reports
pub mod Acts
pub mod inner

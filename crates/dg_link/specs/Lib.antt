pub mod Faults
pub mod Inboxes
pub mod Failing

pub mod Reports
pub mod Standing
pub mod inner

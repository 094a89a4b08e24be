pub mod NetworkLemmas
pub mod EventLemmas
pub mod DoesLemmas
pub mod SentLemmas
pub mod StartLemmas

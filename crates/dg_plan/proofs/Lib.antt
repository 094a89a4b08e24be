pub mod CommandLemmas
pub mod PlanLemmas
mod InjectLemmas
mod PacketLemmas
mod SealLemmas
mod StartLemmas
mod StopLemmas

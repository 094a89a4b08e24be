pub mod Acts
pub mod Commands
pub mod Packets
pub mod Plans
pub mod Stops

pub mod Relays
pub mod Scattered

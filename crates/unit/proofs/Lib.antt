pub mod Places
pub mod Works
pub mod Loads
pub mod Collects

pub mod Places
pub mod Cells

pub mod Readout
pub mod Marked
pub mod Within

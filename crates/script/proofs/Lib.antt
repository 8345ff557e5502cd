pub mod Numerals
pub mod Separated
pub mod Bare
pub mod Added
pub mod Turns
pub mod Numbered

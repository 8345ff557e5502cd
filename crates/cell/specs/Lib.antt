pub mod Bits
pub mod Links
pub mod Runs
pub mod Cells
pub mod Theorems

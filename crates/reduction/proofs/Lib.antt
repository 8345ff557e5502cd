pub mod Told
pub mod Readouts
pub mod Ends

pub mod Faults
pub mod Verbs
pub mod Numbers
pub mod Words
pub mod Arguments
pub mod Lines
pub mod Scripts

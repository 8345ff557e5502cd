pub mod Meaning
pub mod Words
pub mod WordMeaning
pub mod Listed
pub mod Runs

pub mod Words
pub mod CellMeaning
pub mod Passing

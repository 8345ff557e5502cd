pub mod Calls
pub mod History
pub mod Law
pub mod Performs
pub mod Reduces

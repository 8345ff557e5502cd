pub mod Numbers
pub mod Reading
pub mod Writing
pub mod RoundTrips
pub mod HexDigits
pub mod Cutting

pub mod HighBits

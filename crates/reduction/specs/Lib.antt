pub mod Followers
pub mod Results
pub mod Reduces
